-- A file is closed by the terminator of the interchange that is open at its end.
use Rattle.std.proofs.Common.{◌≡◌, ◌∙◌, ℕ, ◌+◌, ◌-◌, ◌<◌, ◌≤◌, List, [], ◌∷◌, ◌++◌, Bool, true, false}
use Rattle.std.proofs.Common.{nat_eq, Some, None, length, take, drop, get_or, refl, sym, ap, subst, arith, inl, inr}
use Rattle.std.specs.List.{prefix_len}
use Rattle.std.proofs.lemmas.Bool.{cases_lt, false_from_ne_true}
use Rattle.std.proofs.lemmas.List.{append_assoc, get_or-drop, length-append}
use Rattle.std.proofs.lemmas.List.{length-drop, take_at}
use Rattle.std.proofs.lemmas.List.Sums.{prefix_len-le-length, prefix_len_passes, prefix_len_stops}
use Rattle.x12_bytes.specs.Bytes.{is_line_end}
use Rattle.x12_bytes.specs.Header.{header_delims, header_at}
use Rattle.x12_bytes.specs.HeaderTest.{is_head}
use Rattle.x12_bytes.specs.declared.delims.Delims.{Delims}
use Rattle.x12_segs.specs.Words.{seg_at, view_of, kind_of}
use Rattle.env_index.specs.Words.{Extent, ends_interchange}
use Rattle.env_index.proofs.ForAbove.{head_within}
use Rattle.whole_interchanges.specs.Begun.{may_begin}
use Rattle.whole_interchanges.specs.Batches.{ChainUpTo, end_from, whole_end}
use Rattle.whole_interchanges.proofs.ForAbove.{chain_joined, chain_waits, none_behind, Leads, head_more, header_kept}
use Rattle.whole_interchanges.specs.Open.{GoesOn}
use Rattle.whole_interchanges.specs.Scouting.{IsInside}
use Rattle.whole_interchanges.specs.declared.scout.Inside.{Inside}
use Rattle.whole_interchanges.proofs.ForAbove.{goes_now, ends_at_head, one_whole}
use Rattle.gather_files.specs.Gathered.{HoldsInterchanges}
use Rattle.gather_files.specs.Closing.{IsLastSegment}
use Rattle.gather_files.proofs.Keeps.{holds_inside}
use Rattle.gather_files.proofs.LastFound.{HasLast, last_of, no_end}
use Rattle.gather_files.proofs.LastPart.{IsInner, IsLastPart, ends_there, passes_blank, passes_segment}

-- an interchange that is open, whose end is asked from its last part on
module _ (read : List ℕ) (start : ℕ) (whole : List Extent) (i : Inside) (chain : (more : List ℕ) → ChainUpTo (read ++ more) 0 start whole)
    (is : IsInside read start i) (at lead : ℕ) (goes : GoesOn read i.delims i.part.at at) (p : IsLastPart read i.delims.terminator at lead)
  where
    abbrev d : Delims
    d = i.delims

    abbrev t : ℕ
    t = d.terminator

    abbrev n : ℕ
    n = length read

    abbrev b : List ℕ
    b = read ++ t ∷ []

    size : length b ≡ n + 1
    size = length-append read (t ∷ [])

    within : n ≤ length b
    within = omega (arith, size)

    front : take n b ≡ read
    front = take_at read (t ∷ []) n refl

    fits : start + 106 ≤ n
    fits = head_within read start is.head

    head : is_head b start ≡ true
    head = head_more b n within start (ap (λ (xs : List ℕ). is_head xs start) front ∙ is.head)

    delims : d ≡ header_delims (header_at b start)
    delims = is.delims ∙ ap header_delims (ap (λ (xs : List ℕ). header_at xs start) (sym front) ∙ header_kept b n within start fits)

    chain_on : (more : List ℕ) → ChainUpTo (b ++ more) 0 start whole
    chain_on more = subst (λ (xs : List ℕ). ChainUpTo xs 0 start whole) (sym (append_assoc read (t ∷ []) more)) (chain (t ∷ more))

    goes_on : GoesOn b d (start + 106) at
    goes_on more =
        subst (λ (xs : List ℕ). end_from xs d (start + 106) ≡ end_from xs d at) (sym (append_assoc read (t ∷ []) more))
        (is.goes_on (t ∷ more) ∙ goes (t ∷ more))

    between : GoesOn b d at (n + 1) → HoldsInterchanges b (length whole + 1)
    between on = holds_inside b start whole open_there chain_on stands (sym size)
      where
        open_there : Inside
        open_there = record { delims = d; part = record { at = n + 1; lead = n + 1; seen = n + 1 } }

        stands : IsInside b start open_there
        stands = record {
          head = head;
          delims = delims;
          behind = omega (arith, fits);
          goes_on = λ more. goes_on more ∙ on more;
          open_part = record {
            order = omega arith;
            later = omega arith;
            within = omega (arith, size);
            line_ends = λ k lt. absurd (omega (arith, lt));
            none = λ k lt. absurd (omega (arith, lt));
          };
        }

    ended : end_from b d at ≡ Some (n + 1) → HoldsInterchanges b (length whole + 1)
    ended end =
        let whole_is : whole_end b start ≡ Some (n + 1) =
        ap (λ (x : Delims). end_from b x (start + 106)) (sym delims) ∙ goes_now b d (start + 106) at goes_on ∙ end in
        let one = one_whole b start (n + 1) head whole_is in
        let last : List Extent = record { start = start; end = n + 1 } ∷ [] in
        λ more follows. (
          whole ++ last,
          subst (λ (k : ℕ). ChainUpTo (b ++ more) 0 k (whole ++ last)) (sym size)
              (chain_joined (b ++ more) 0 start (n + 1) whole last (chain_on more) (one.2 more)),
          length-append whole last,
        )

    pub closes_it : HoldsInterchanges b (length whole + 1)
    closes_it = elim (cases_lt lead n) [
      | inr all ↦ between (passes_blank read d at lead p all)
      | inl some ↦ by_kind some (ends_interchange (kind_of (view_of d (seg_at b lead n)))) refl
    ]
      where
        by_kind : lead < n → (e : Bool) → ends_interchange (kind_of (view_of d (seg_at b lead n))) ≡ e
            → HoldsInterchanges b (length whole + 1)
        by_kind some true kind = ended (ends_there read d at lead p some kind)
        by_kind some false kind = between (passes_segment read d at lead p some kind)

-- so the terminator of the interchange that is open closes a file in which no header can turn out to begin
pub seals : (read : List ℕ) (start : ℕ) (whole : List Extent) (i : Inside)
    → ((more : List ℕ) → ChainUpTo (read ++ more) 0 start whole) → IsInside read start i → whole_end read start ≡ None
    → ((q : ℕ) → q < length read → may_begin read q ≡ false) → HoldsInterchanges (read ++ i.delims.terminator ∷ []) (length whole + 1)
seals read start whole i chain is left closed =
    closes_it read start whole i chain is l.from lead l.goes
    (record {
      order = omega arith;
      within = omega (arith, room, prefix_len-le-length is_line_end (drop l.from read), l.within);
      line_ends = λ k lt. prefix_len_passes is_line_end (drop l.from read) k 0 (omega (arith, lt));
      none = l.none;
      inner = inner;
    })
  where
    d : Delims
    d = i.delims

    unknown : end_from read d i.part.at ≡ None
    unknown =
        sym (goes_now read d (start + 106) i.part.at is.goes_on) ∙ ap (λ (x : Delims). end_from read x (start + 106)) is.delims ∙ left

    part_within : i.part.at ≤ length read
    part_within = omega (arith, is.open_part.order, is.open_part.later, is.open_part.within)

    l : HasLast read d i.part.at
    l = last_of read d closed (length read) i.part.at (omega arith) part_within unknown

    room : length (drop l.from read) ≡ length read - l.from
    room = length-drop l.from read

    lead : ℕ
    lead = l.from + prefix_len is_line_end (drop l.from read)

    inner : lead < length read → IsInner read lead
    inner lt =
        let stop : is_line_end (get_or (drop l.from read) (prefix_len is_line_end (drop l.from read)) 0) ≡ false =
        prefix_len_stops is_line_end (drop l.from read) 0 (omega (arith, lt, room)) in
        let depth : lead - l.from ≡ prefix_len is_line_end (drop l.from read) = omega arith in
        let leads : Leads read d.terminator l.from lead = record {
          order = omega arith;
          within = lt;
          line_ends = λ k low. prefix_len_passes is_line_end (drop l.from read) k 0 (omega (arith, low));
          other = ap (λ (k : ℕ). is_line_end (get_or (drop l.from read) k 0)) depth ∙ stop;
          no_terminator = λ k low. l.none k (omega (arith, low, lt));
        } in
        record {
          other = ap is_line_end (sym (get_or-drop l.from read (prefix_len is_line_end (drop l.from read)) 0)) ∙ stop;
          no_head = false_from_ne_true (is_head read lead) (λ head. no_end lead (end_from read d l.from)
              (ends_at_head read d l.from lead leads head) (sym (goes_now read d i.part.at l.from l.goes) ∙ unknown));
          none_begins = closed lead lt;
        }

-- and where none is open, it is closed
pub none_open : (read : List ℕ) (at : ℕ) (whole : List Extent) → ((more : List ℕ) → ChainUpTo (read ++ more) 0 at whole)
    → at ≤ length read → ((q : ℕ) → at ≤ q → is_head read q ≡ false)
    → ((q : ℕ) → q < length read → may_begin read q ≡ false) → HoldsInterchanges read (length whole)
none_open read at whole chain le none closed = λ more follows. (
  whole,
  chain_waits (read ++ more) 0 at (length read) whole (chain more) le
      (λ q low lt. none_behind read more q (omega (arith, lt)) (none q low) (closed q lt)),
  refl,
)

-- so does the terminator where a segment is open that is none of a header
pub segment_closed : (read : List ℕ) (start : ℕ) (whole : List Extent) (i : Inside)
    → ((more : List ℕ) → ChainUpTo (read ++ more) 0 start whole) → IsInside read start i
    → IsLastSegment read i.delims.terminator i.part.lead → HoldsInterchanges (read ++ i.delims.terminator ∷ []) (length whole + 1)
segment_closed read start whole i chain is last =
    closes_it read start whole i chain is at lead (λ more. refl)
    (record {
      order = is.open_part.order;
      within = omega (arith, last.within);
      line_ends = is.open_part.line_ends;
      none = none;
      inner = λ lt. record { other = last.other; no_head = last.no_head; none_begins = last.none_begins };
    })
  where
    at : ℕ
    at = i.part.at

    lead : ℕ
    lead = i.part.lead

    t : ℕ
    t = i.delims.terminator

    none : (k : ℕ) → k < length read - at → nat_eq (get_or (drop at read) k 0) t ≡ false
    none k lt = elim (cases_lt (at + k) lead) [
      | inl near ↦ is.open_part.none k (omega (arith, near, is.open_part.later))
      | inr far ↦ false_from_ne_true (nat_eq (get_or (drop at read) k 0) t) (λ yes.
          (let shift : lead + (at + k - lead) ≡ at + k = omega (arith, far) in
          let same : get_or (drop lead read) (at + k - lead) 0 ≡ get_or (drop at read) k 0 =
          get_or-drop lead read (at + k - lead) 0 ∙ ap (λ (j : ℕ). get_or read j 0) shift ∙ sym (get_or-drop at read k 0) in
          last.none (at + k - lead) (omega arith) (omega (arith, lt, far, length-drop lead read))
          (ap (λ (x : ℕ). nat_eq x t) same ∙ yes)))
    ]
