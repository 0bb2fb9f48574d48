-- X12.5, interchange: how the interchanges of a text continue where it is read in batches.
use Rattle.std.specs.Prelude.{◌≡◌, ℕ, ◌+◌, ◌≤◌, ◌<◌, false, List, [], ◌∷◌, length, map}
use Rattle.std.specs.Prelude.{Option, Some, None, if◌then◌else◌}
use Rattle.x12_bytes.specs.Header.{header_at, header_delims}
use Rattle.x12_bytes.specs.HeaderTest.{is_head}
use Rattle.x12_bytes.specs.declared.layout.TheConstants.{HEADER_LEN}
use Rattle.x12_bytes.specs.declared.delims.Delims.{Delims}
use Rattle.x12_segs.specs.Words.{Seg, segs_from, rest_from, SegValue, view_of, kind_of}
use Rattle.env_index.specs.Words.{Extent, IsNextHead, behind, ends_interchange, reach_at}
use Rattle.whole_interchanges.specs.Begun.{may_begin}

-- where an interchange ends, by what is read of the text: at a header that is read where a segment or the rest begins, or after the
-- terminator of its IEA, if no segment before can still turn out to begin at a header; else that isn't known yet
abbrev pub end_by : List ℕ → List SegValue → Seg → Option ℕ
end_by read [] rest = if is_head read rest.start then Some rest.start else None
end_by read (seg ∷ segs) rest =
    if is_head read seg.start then Some seg.start
    else if may_begin read seg.start then None
    else if ends_interchange (kind_of seg) then Some (behind seg)
    else end_by read segs rest

abbrev pub end_from : List ℕ → Delims → ℕ → Option ℕ
end_from read delims from =
    end_by read (map (view_of delims) (segs_from read delims.terminator from)) (rest_from read delims.terminator from)

-- the end of the interchange whose header begins at an offset of what is read; none where it isn't whole yet
abbrev pub whole_end : List ℕ → ℕ → Option ℕ
whole_end read start = end_from read (header_delims (header_at read start)) (start + HEADER_LEN)

-- the interchanges of a text from an offset on, up to another at which none is open
abbrev pub ChainUpTo : List ℕ → (from to : ℕ) → List Extent → Type 0
ChainUpTo text from to [] = (from ≤ to) × ((q : ℕ) → from ≤ q → q < to → is_head text q ≡ false)
ChainUpTo text from to (x ∷ xs) = IsNextHead text from x.start × (x.end ≡ (reach_at text x.start).end) × ChainUpTo text x.end to xs

-- the same by what is read of the text: each of these interchanges is whole, and no header can turn out to begin between them
abbrev pub WholeUpTo : List ℕ → (from to : ℕ) → List Extent → Type 0
WholeUpTo read from to [] =
    (from ≤ to) × (to ≤ length read)
    × ((q : ℕ) → from ≤ q → q < to → (is_head read q ≡ false) × (may_begin read q ≡ false))
WholeUpTo read from to (x ∷ xs) =
    IsNextHead read from x.start × (whole_end read x.start ≡ Some x.end) × WholeUpTo read x.end to xs
