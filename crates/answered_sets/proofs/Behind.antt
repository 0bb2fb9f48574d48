-- The segments after the first one of a set's span, read alone.
use Rattle.std.proofs.Common.{◌≡◌, ℕ, ◌+◌, ◌<◌, ◌≤◌, ◌∙◌, inl, inr, List, [], ◌∷◌, length, take, drop, refl, sym, ap, subst, ◌-◌, arith}
use Rattle.std.specs.Prelude.{map}
use mathlib.Core.List.{map-map}
use Rattle.std.proofs.lemmas.Bool.{cases_lt}
use Rattle.std.proofs.lemmas.List.{drop_all, length-take-le}
use Rattle.x12_bytes.specs.declared.delims.Delims.{Delims}
use Rattle.x12_segs.specs.Words.{Seg, SegValue, moved_by, parts, segs_from, segs_of, span_segs, span_views, view_of, views}
use Rattle.x12_segs.specs.declared.set_span.SetSpan.{SetSpan}
use Rattle.x12_segs.proofs.ForAbove.{segs_of-moved, IsFirstSeg, first_seg}

-- the bytes of segments don't say from where their offsets are counted
read_alone : (d : Delims) (place : ℕ) (ps : List (List ℕ))
    → map (λ (s : SegValue). s.bytes) (map (view_of d) (segs_of place ps))
    ≡ map (λ (s : SegValue). s.bytes) (map (view_of d) (segs_of 0 ps))
read_alone d place ps =
    let bytes = λ (s : SegValue). s.bytes in
    let from : place ≡ place + 0 = omega arith in
    map-map bytes (view_of d) (segs_of place ps)
    ∙ ap (λ (k : ℕ). map (λ (s : Seg). s.bytes) (segs_of k ps)) from
    ∙ ap (map (λ (s : Seg). s.bytes)) (segs_of-moved place 0 ps)
    ∙ map-map (λ (s : Seg). s.bytes) (moved_by place) (segs_of 0 ps)
    ∙ sym (map-map bytes (view_of d) (segs_of 0 ps))

-- where the segments after the first one are read, and that they are all
pub record AreBehind (text : List ℕ) (span : SetSpan) (seg : SegValue) : Type 0 where
  pub within : seg.start + length seg.bytes + 1 ≤ span.end
  pub segs : map (λ (s : SegValue). s.bytes) (drop 1 (span_views text span))
      ≡ map (λ (s : SegValue). s.bytes) (views (drop (seg.start + length seg.bytes + 1) (take span.end text)) span.delims)

in_front : (front : List ℕ) (t from : ℕ) (x : Seg) (xs : List Seg) → segs_from front t from ≡ x ∷ xs → from ≤ length front
in_front front t from x xs is = elim (cases_lt from (length front)) [
  | inl lt ↦ omega (arith, lt)
  | inr ge ↦
      let none : segs_from front t from ≡ [] =
      ap (λ (l : List ℕ). segs_of from (parts t l)) (drop_all from front (omega (arith, ge))) in
      absurd (let no : ⊥ = (cc) in no)
]

by_list : (text : List ℕ) (span : SetSpan) (segs : List Seg) (seg : SegValue) (rest : List SegValue) → span.end ≤ length text
    → span_segs text span ≡ segs → map (view_of span.delims) segs ≡ seg ∷ rest → AreBehind text span seg
by_list text span [] seg rest within is first = absurd (let no : ⊥ = (cc) in no)
by_list text span (x ∷ xs) seg rest within is first =
    let d : Delims = span.delims in
    let front : List ℕ = take span.end text in
    let long : length front ≡ span.end = length-take-le span.end text within in
    let one : IsFirstSeg front d.terminator span.start x xs =
    first_seg (length front - span.start) front d.terminator span.start x xs (omega arith)
    (in_front front d.terminator span.start x xs is) is in
    let ends : x.start + length x.bytes < length front = one.end in
    let behind : ℕ = x.start + length x.bytes + 1 in
    let told : AreBehind text span (view_of d x) = record {
      within = omega arith;
      segs = ap (λ (l : List Seg). map (λ (s : SegValue). s.bytes) (drop 1 (map (view_of d) l))) is
          ∙ ap (λ (l : List Seg). map (λ (s : SegValue). s.bytes) (map (view_of d) l)) (sym one.behind)
          ∙ read_alone d behind (parts d.terminator (drop behind front));
    } in
    let view : view_of d x ≡ seg = cc in
    subst (AreBehind text span) view told

pub behind_first : (text : List ℕ) (span : SetSpan) (seg : SegValue) (rest : List SegValue) → span.end ≤ length text
    → span_views text span ≡ seg ∷ rest → AreBehind text span seg
behind_first text span seg rest within first = by_list text span (span_segs text span) seg rest within refl first

-- a span without a segment
pub behind_none : (text : List ℕ) (span : SetSpan) → span_views text span ≡ []
    → map (λ (s : SegValue). s.bytes) (drop 1 (span_views text span)) ≡ map (λ (s : SegValue). s.bytes) (views [] span.delims)
behind_none text span none = ap (λ (l : List SegValue). map (λ (s : SegValue). s.bytes) (drop 1 l)) none
