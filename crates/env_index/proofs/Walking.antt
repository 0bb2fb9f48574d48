-- What the next part makes of an interchange's reach.
use Rattle.std.proofs.Common.{◌≡◌, ◌≢◌, ℕ, ◌+◌, ◌≤◌, List, [], ◌∷◌, Bool, true, false, length, cond, refl, ap, ◌∙◌, arith}
use Rattle.std.specs.List.{slice_range}
use Rattle.std.proofs.lemmas.List.{length-take, length-drop}
use Rattle.x12_bytes.specs.HeaderTest.{is_head}
use Rattle.x12_bytes.specs.declared.delims.Delims.{Delims}
use Rattle.x12_segs.specs.Words.{Seg, seg_at, SegValue, kind_of}
use Rattle.x12_segs.specs.declared.part.Part.TheVariants.{Segment, Rest}
use Rattle.x12_segs.specs.declared.kind.Kind.{Kind}
use Rattle.x12_segs.specs.declared.kind.Kind.TheVariants.{InterchangeTrailer, GroupHeader, GroupTrailer, SetHeader, SetTrailer, Ta1}
use Rattle.x12_segs.specs.declared.kind.Kind.TheVariants.{Other}
use Rattle.env_index.specs.Extents.{Reach, behind, onto_reach, ends_interchange, reach_of}
use Rattle.env_index.specs.Source.{TakesPart, reach_over}
use Rattle.env_index.specs.Mapped.{EndsWithTrailer}

-- the segment that a part is
abbrev pub segment_at : List ℕ → Delims → ℕ → ℕ → SegValue
segment_at text delims start end = record { start = start; bytes = slice_range text start end; delims = delims }

-- the reach from a segment on
abbrev from_segment : List ℕ → SegValue → Reach → Reach
from_segment text seg more = cond (is_head text seg.start) (record {
  segs = [];
  end = seg.start;
}) (cond (ends_interchange (kind_of seg)) (record { segs = seg ∷ []; end = behind seg }) (onto_reach seg more))

reach_next : (text : List ℕ) (delims : Delims) (segs more : List Seg) (rest left : Seg) (start end : ℕ)
    → TakesPart text segs rest (Segment start end) more left
    → reach_over text delims segs rest ≡ from_segment text (segment_at text delims start end) (reach_over text delims more left)
reach_next text delims segs more rest left start end next =
    ap (λ (ss : List Seg). reach_over text delims ss rest) next.0
    ∙ ap (λ (r : Seg). reach_over text delims (seg_at text start end ∷ more) r) next.1

-- at a header it ends
pub reach_at_head : (text : List ℕ) (delims : Delims) (segs more : List Seg) (rest left : Seg) (start end : ℕ)
    → TakesPart text segs rest (Segment start end) more left
    → is_head text start ≡ true
    → reach_over text delims segs rest ≡ record { segs = []; end = start }
reach_at_head text delims segs more rest left start end next head =
    let seg : SegValue = segment_at text delims start end in
    let on : Reach = reach_over text delims more left in
    reach_next text delims segs more rest left start end next
    ∙ ap (λ (b : Bool). cond b (let r : Reach = record {
      segs = [];
      end = start;
    } in r) (cond (ends_interchange (kind_of seg)) (record { segs = seg ∷ []; end = behind seg }) (onto_reach seg on)))
    head

-- an IEA ends it after its terminator
pub reach_at_trailer : (text : List ℕ) (delims : Delims) (segs more : List Seg) (rest left : Seg) (start end : ℕ)
    → TakesPart text segs rest (Segment start end) more left
    → start ≤ end → end ≤ length text → is_head text start ≡ false
    → ends_interchange (kind_of (segment_at text delims start end)) ≡ true
    → reach_over text delims segs rest ≡ record { segs = segment_at text delims start end ∷ []; end = end + 1 }
reach_at_trailer text delims segs more rest left start end next order within head trailer =
    let seg : SegValue = segment_at text delims start end in
    let on : Reach = reach_over text delims more left in
    let long : start + length seg.bytes ≡ end = omega (arith, length-take {A = ℕ}, length-drop {A = ℕ}) in
    reach_next text delims segs more rest left start end next
    ∙ ap (λ (b : Bool). cond b (let r : Reach = record {
      segs = [];
      end = start;
    } in r) (cond (ends_interchange (kind_of seg)) (record { segs = seg ∷ []; end = behind seg }) (onto_reach seg on)))
    head
    ∙ ap (λ (b : Bool). cond b (let r : Reach = record { segs = seg ∷ []; end = behind seg } in r) (onto_reach seg on)) trailer
    ∙ ap (λ (n : ℕ). (let r : Reach = record { segs = seg ∷ []; end = n + 1 } in r)) long

-- any other segment is one of its segments
pub reach_on : (text : List ℕ) (delims : Delims) (segs more : List Seg) (rest left : Seg) (start end : ℕ)
    → TakesPart text segs rest (Segment start end) more left
    → is_head text start ≡ false
    → ends_interchange (kind_of (segment_at text delims start end)) ≡ false
    → reach_over text delims segs rest ≡ onto_reach (segment_at text delims start end) (reach_over text delims more left)
reach_on text delims segs more rest left start end next head trailer =
    let seg : SegValue = segment_at text delims start end in
    let on : Reach = reach_over text delims more left in
    reach_next text delims segs more rest left start end next
    ∙ ap (λ (b : Bool). cond b (let r : Reach = record {
      segs = [];
      end = start;
    } in r) (cond (ends_interchange (kind_of seg)) (record { segs = seg ∷ []; end = behind seg }) (onto_reach seg on)))
    head
    ∙ ap (λ (b : Bool). cond b (let r : Reach = record { segs = seg ∷ []; end = behind seg } in r) (onto_reach seg on)) trailer

-- at the rest it ends
pub reach_at_rest : (text : List ℕ) (delims : Delims) (segs more : List Seg) (rest left : Seg) (start : ℕ)
    → TakesPart text segs rest (Rest start) more left
    → reach_over text delims segs rest ≡ record { segs = []; end = cond (is_head text start) start (length text) }
reach_at_rest text delims segs more rest left start next =
    ap (λ (ss : List Seg). reach_over text delims ss rest) next.0
    ∙ ap (λ (r : Seg). reach_of text [] r) next.1

-- a kind that is none of the trailer's
pub other_kind : (k : Kind) → k ≢ InterchangeTrailer → ends_interchange k ≡ false
other_kind InterchangeTrailer other = absurd (other refl)
other_kind GroupHeader other = refl
other_kind GroupTrailer other = refl
other_kind SetHeader other = refl
other_kind SetTrailer other = refl
other_kind Ta1 other = refl
other_kind Other other = refl

-- an interchange has no segment after its IEA
pub only_last : (text : List ℕ) (segs : List SegValue) (rest : Seg) → EndsWithTrailer kind_of (reach_of text segs rest).segs
only_last text [] rest = tt
only_last text (seg ∷ segs) rest = by_tests (is_head text seg.start) (ends_interchange (kind_of seg)) refl (only_last text segs rest)
  where
    by_tests : (head trailer : Bool) → ends_interchange (kind_of seg) ≡ trailer → EndsWithTrailer kind_of (reach_of text segs rest).segs
        → EndsWithTrailer kind_of (cond head (let r : Reach = record {
          segs = [];
          end = seg.start;
        } in r)
        (cond trailer (record { segs = seg ∷ []; end = behind seg }) (onto_reach seg (reach_of text segs rest)))).segs
    by_tests true trailer is more = tt
    by_tests false true is more = ((λ _. refl), tt)
    by_tests false false is more = ((λ yes. cc), more)
