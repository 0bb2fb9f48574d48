-- What a set's ST, SE and number of segments are, by all its segments.
use Rattle.std.proofs.Common.{◌≡◌, ◌≤◌, ◌+◌, ◌-◌, ℕ, zero, suc, Bool, true, false, List, [], ◌∷◌, length, map, take, drop, min}
use Rattle.std.proofs.Common.{Option, Some, ⊎_elim, sym, ◌∙◌, ap, arith, slice_index_or}
use Rattle.std.specs.List.{slice_get}
use Rattle.std.proofs.lemmas.List.{length-map, length-take, length-drop}
use Rattle.std.proofs.lemmas.Option.{slice_get_cases}
use Rattle.x12_bytes.specs.declared.delims.Delims.{Delims}
use Rattle.x12_segs.specs.Words.{SegValue, elements_of}
use Rattle.set_walk.specs.declared.ends.Ends.{Ends}
use Rattle.set_check.specs.Envelope.{IsEnvelopeOf}
use Rattle.set_check.specs.SetParts.{SetParts, before_trailer, inner_of, set_trailer_of, parts_of, no_segment, segments_of_set}

abbrev set_of : Delims → SegValue → List SegValue → Option SegValue → SetParts
set_of d header inner trailer = record { delims = d; header = header; body = map elements_of inner; trailer = trailer }

inner_length : (segs : List SegValue) (m : ℕ) → 1 ≤ m → m ≤ length segs → length (map elements_of (take (m - 1) (drop 1 segs))) ≡ m - 1
inner_length segs m some few =
    length-map (take (m - 1) (drop 1 segs)) elements_of
    ∙ length-take (m - 1) (drop 1 segs)
    ∙ ap (min (m - 1)) (length-drop 1 segs)
    ∙ omega arith

last_of : (segs : List SegValue) → 1 ≤ length segs → (x : SegValue) × (slice_get segs (length segs - 1) ≡ Some x)
last_of segs some = ⊎_elim (λ a. (a.0, a.2)) (λ b. let past : length segs ≤ length segs - 1 = b.0 in absurd (omega arith))
    (slice_get_cases segs (length segs - 1)).1

pub count_of : (d : Delims) (closed : Bool) (segs : List SegValue) → 1 ≤ length segs → 1 ≤ before_trailer closed (length segs)
    → length segs ≡ segments_of_set (parts_of d closed segs)
count_of d true segs some room =
    let inner = inner_of true segs in
    let header = slice_index_or segs 0 (no_segment d) in
    let n : length (map elements_of inner) ≡ length segs - 1 - 1 = inner_length segs (length segs - 1) room (omega arith) in
    let k : length segs ≡ length (map elements_of inner) + 2 = omega arith in
    k ∙ ap (λ (t : Option SegValue). segments_of_set (set_of d header inner t)) (sym (last_of segs some).1)
count_of d false segs some room =
    let n : length (map elements_of (inner_of false segs)) ≡ length segs - 1 = inner_length segs (length segs) some (omega arith) in
    omega arith

first_of : (m : ℕ) (segs : List SegValue) (header e : SegValue) → 1 ≤ m → 1 ≤ length segs → header ≡ slice_index_or (take m segs) 0 header
    → header ≡ slice_index_or segs 0 e
first_of zero segs header e h k is = absurd (omega arith)
first_of (suc m) [] header e h k is = absurd (omega arith)
first_of (suc m) (s ∷ segs) header e h k is = is

pub envelope_is : (d : Delims) (closed : Bool) (segs left : List SegValue) (e : Ends) → 1 ≤ length segs
    → 1 ≤ before_trailer closed (length segs) → left ≡ take (before_trailer closed (length segs)) segs
    → e.header ≡ slice_index_or left 0 e.header → e.segments ≡ length segs → e.trailer ≡ set_trailer_of closed segs
    → IsEnvelopeOf (parts_of d closed segs) e
envelope_is d closed segs left e some room l h n t = record {
  header = first_of (before_trailer closed (length segs)) segs e.header (no_segment d) room some
      (h ∙ ap (λ (xs : List SegValue). slice_index_or xs 0 e.header) l);
  segments = n ∙ count_of d closed segs some room;
  trailer = t;
}
