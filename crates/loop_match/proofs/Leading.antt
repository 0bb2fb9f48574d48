-- The segments of a body, where each has a place that leads to the slot that it is given: placed, they are these with their slots.
use Rattle.std.proofs.Common.{◌≡◌, ℕ, zero, suc, ◌<◌, ◌≤◌, List, [], ◌∷◌, ◌++◌, length, map, take, Option, Some, None}
use Rattle.std.proofs.Common.{refl, sym, ap, ◌∙◌, arith, add-one}
use Rattle.std.specs.Prelude.{option_map, slice_index_or}
use Rattle.std.specs.List.{slice_get}
use Rattle.std.proofs.lemmas.List.{map-append, length-map, take_all, take_more}
use Rattle.std.proofs.lemmas.Option.{slice_get-map, slice_get_within, get_or_from_slice_get}
use Rattle.guide_tree.specs.declared.slot.Slot.{Slot}
use Rattle.guide_tree.specs.Words.{Trees, Segment, Given, Place, slot_at, slot_given}
use Rattle.guide_law.specs.Law.{HasSlots}
use Rattle.loop_match.specs.LoopIds.{loop_id_of}
use Rattle.loop_match.specs.PlacedSegments.{PlacedSegment, placed_by, with_placed, placed_among_first, placed_segments, as_given}
use Rattle.loop_match.proofs.Standing.{stood}

abbrev segments_in : List Given → List Segment
segments_in xs = map (λ (x : Given). x.0) xs

abbrev Leads : Trees → List (Option Place) → ℕ → Slot → Type 0
Leads ts given n slot = (place : Option Place) × (slice_get given n ≡ Some place) × (slot_given ts place ≡ Some slot)

there_is : {X : Type 0} (xs : List X) (n : ℕ) → n < length xs → (x : X) × (slice_get xs n ≡ Some x)
there_is [] n l = absurd (omega arith)
there_is (x ∷ xs) zero l = (x, refl)
there_is (x ∷ xs) (suc n) l = there_is xs n (omega arith)

leads_by : (ts : Trees) (given : List (Option Place)) (n : ℕ) (slot : Slot) (o : Option (Option Place)) → slice_get given n ≡ o
    → option_map (slot_given ts) o ≡ Some (Some slot) → Leads ts given n slot
leads_by ts given n slot None e h = let k : None ≡ Some (Some slot) = h in cc
leads_by ts given n slot (Some place) e h =
    let k : Some (slot_given ts place) ≡ Some (Some slot) = h in
    let same : slot_given ts place ≡ Some slot = cc in
    (place, e, same)

leads_there : (ts : Trees) (given : List (Option Place)) (xs : List Given) (n : ℕ) (x : Given) → HasSlots ts given xs
    → slice_get xs n ≡ Some x → Leads ts given n x.1
leads_there ts given xs n x led there =
    leads_by ts given n x.1 (slice_get given n) refl
    (sym (slice_get-map (slot_given ts) given n)
    ∙ ap (λ (l : List (Option Slot)). slice_get l n) led
    ∙ slice_get-map (λ (z : Given). Some z.1) xs n
    ∙ ap (option_map (λ (z : Given). Some z.1)) there)

next_by : (before : List PlacedSegment) (n : ℕ) (s : Segment) (loop_id : List ℕ) (o : Option Slot) (slot : Slot) → o ≡ Some slot
    → map as_given (with_placed before (option_map (stood n s loop_id) o)) ≡ map as_given before ++ (s, slot) ∷ []
next_by before n s loop_id None slot e = cc
next_by before n s loop_id (Some own) slot e =
    let same : own ≡ slot = cc in
    map-append as_given before (stood n s loop_id own ∷ []) ∙ ap (λ (z : Slot). map as_given before ++ (s, z) ∷ []) same

next_given : (ts : Trees) (before : List PlacedSegment) (n : ℕ) (s : Segment) (place : Option Place) (slot : Slot)
    → slot_given ts place ≡ Some slot → map as_given (with_placed before (placed_by ts n s place)) ≡ map as_given before ++ (s, slot) ∷ []
next_given ts before n s None slot e = let k : None ≡ Some slot = e in cc
next_given ts before n s (Some q) slot e = next_by before n s (loop_id_of ts q) (slot_at ts q) slot e

take_next : (xs : List Given) (n : ℕ) (x : Given) → slice_get xs n ≡ Some x → take (suc n) xs ≡ take n xs ++ x ∷ []
take_next xs n x there =
    ap (λ (k : ℕ). take k xs) (sym (add-one n))
    ∙ take_more xs n x (slice_get_within xs n x there)
    ∙ ap (λ (z : Given). take n xs ++ z ∷ []) (get_or_from_slice_get xs n x x there)

first_given : (ts : Trees) (xs : List Given) (given : List (Option Place)) (n : ℕ) → HasSlots ts given xs → n ≤ length xs
    → map as_given (placed_among_first ts (segments_in xs) given n) ≡ take n xs
first_given ts xs given zero led l = refl
first_given ts xs given (suc n) led l =
    let body : List Segment = segments_in xs in
    let before : List PlacedSegment = placed_among_first ts body given n in
    let it = there_is xs n (omega arith) in
    let x : Given = it.0 in
    let there : slice_get body n ≡ Some x.0 = slice_get-map (λ (z : Given). z.0) xs n ∙ ap (option_map (λ (z : Given). z.0)) it.1 in
    let at = leads_there ts given xs n x led it.1 in
    ap (λ (s : Segment). map as_given (with_placed before (placed_by ts n s (slice_index_or given n None))))
    (get_or_from_slice_get body n x.0 [] there)
    ∙ ap (λ (o : Option Place). map as_given (with_placed before (placed_by ts n x.0 o))) (get_or_from_slice_get given n at.0 None at.1)
    ∙ next_given ts before n x.0 at.0 x.1 at.2
    ∙ ap (λ (ys : List Given). ys ++ x ∷ []) (first_given ts xs given n led (omega arith))
    ∙ sym (take_next xs n x it.1)

pub placed_given : (ts : Trees) (xs : List Given) (body : List Segment) (given : List (Option Place)) → segments_in xs ≡ body
    → HasSlots ts given xs → map as_given (placed_segments ts body given) ≡ xs
placed_given ts xs body given are led =
    let n : length (segments_in xs) ≡ length xs = length-map xs (λ (x : Given). x.0) in
    ap (λ (l : List Segment). map as_given (placed_segments ts l given)) (sym are)
    ∙ first_given ts xs given (length (segments_in xs)) led (omega arith)
    ∙ take_all (length (segments_in xs)) xs (omega arith)
