-- What a walk gives is the placing, with the slot of each place.
use Rattle.std.proofs.Common.{◌≡◌, ℕ, ◌≤◌, List, [], ◌∷◌, ◌++◌, map, drop, length, Option, Some, None, refl, sym, ap, ◌∙◌}
use Rattle.std.proofs.lemmas.List.{append-nil, drop_all}
use Rattle.x12_segs.specs.Words.{SegValue, elements_of}
use Rattle.guide_tree.specs.declared.slot.Slot.{Slot}
use Rattle.guide_tree.specs.Words.{Trees, or_else, Segment, Place, slot_given, Candidate, nexts, first_fit, next_place_of, placing_from}
use Rattle.guide_law.proofs.ForAbove.{Found, first_found, nexts_come}
use Rattle.loop_match.specs.Given.{place_in, slot_in, given_from, given_of}

pub places_given : (ts : Trees) (last : Option Place) (body : List Segment)
    → map place_in (given_from ts last body) ≡ placing_from ts last body
places_given ts last [] = refl
places_given ts last (s ∷ body) =
    ap (λ (l : List (Option Place)). next_place_of ts last s ∷ l) (places_given ts (or_else (next_place_of ts last s) last) body)

slot_there : (ts : Trees) (last : Option Place) (s : Segment) (x : Option Candidate) → Found s (nexts ts last) x
    → slot_in x ≡ slot_given ts (place_in x)
slot_there ts last s None f = refl
slot_there ts last s (Some c) f = sym (nexts_come ts last c f.0).1

pub slots_given : (ts : Trees) (last : Option Place) (body : List Segment)
    → map slot_in (given_from ts last body) ≡ map (slot_given ts) (placing_from ts last body)
slots_given ts last [] = refl
slots_given ts last (s ∷ body) =
    let x = first_fit s (nexts ts last) in
    let next = or_else (next_place_of ts last s) last in
    ap (λ (o : Option Slot). o ∷ map slot_in (given_from ts next body)) (slot_there ts last s x (first_found s (nexts ts last)))
    ∙ ap (λ (l : List (Option Slot)). slot_given ts (place_in x) ∷ l) (slots_given ts next body)

-- where no segment is left, what was given is all
pub all_given : (ts : Trees) (gs : List (Option Candidate)) (last : Option Place) (segs : List SegValue) (i : ℕ)
    → length segs ≤ i → gs ++ given_from ts last (map elements_of (drop i segs)) ≡ given_of ts (map elements_of segs)
    → gs ≡ given_of ts (map elements_of segs)
all_given ts gs last segs i l e =
    sym (ap (λ (r : List SegValue). gs ++ given_from ts last (map elements_of r)) (drop_all i segs l) ∙ append-nil gs) ∙ e
