-- The segments that a walk gives slots to are those that have places, each with the slot to which its place leads.
use Rattle.std.proofs.Common.{◌≡◌, List, [], ◌∷◌, ◌++◌, map, Option, Some, None, refl, sym, ap, ◌∙◌}
use Rattle.std.proofs.lemmas.List.{map-append, append_assoc}
use Rattle.x12_segs.specs.Words.{SegValue, elements_of}
use Rattle.guide_tree.specs.Words.{Trees, GuideTree, Segment, Given, Place, Candidate, placing_from}
use Rattle.loop_match.specs.Given.{place_in}
use Rattle.loop_match.specs.PlacedSegments.{placed_segments, as_given}
use Rattle.loop_match.proofs.ForAbove.{seated, seated_at, with_slot, placed_seated}
use Rattle.set_walk.specs.Kept.{Slotted, given_by, segs_in}
use Rattle.set_walk.specs.WalkedBody.{places_by}
use Rattle.set_walk.specs.Walked.{next_for, last_place_after, slotted_at, slotted_from}
use Rattle.set_walk.proofs.Erring.{leads_to}

seated_here : (ts : Trees) (last : Option Place) (s : SegValue) (o : Option Candidate) → next_for ts last s ≡ o
    → map given_by (slotted_at s o) ≡ seated_at ts (elements_of s) (place_in o)
seated_here ts last s None e = refl
seated_here ts last s (Some c) e = ap (with_slot (elements_of s)) (sym (leads_to ts last (elements_of s) c e))

seated_from : (ts : Trees) (last : Option Place) (body : List SegValue)
    → map given_by (slotted_from ts last body) ≡ seated ts (map elements_of body) (placing_from ts last (map elements_of body))
seated_from ts last [] = refl
seated_from ts last (s ∷ body) =
    let next : Option Candidate = next_for ts last s in
    let rest : List Slotted = slotted_from ts (last_place_after next last) body in
    map-append given_by (slotted_at s next) rest
    ∙ ap (λ (l : List Given). l ++ map given_by rest) (seated_here ts last s next refl)
    ∙ ap (λ (l : List Given). seated_at ts (elements_of s) (place_in next) ++ l) (seated_from ts (last_place_after next last) body)

pub placed_are : (g : GuideTree) (body : List SegValue)
    → map as_given (placed_segments g.nodes (map elements_of body) (places_by g body)) ≡ map given_by (slotted_from g.nodes None body)
placed_are g body = placed_seated g.nodes (map elements_of body) (places_by g body) ∙ sym (seated_from g.nodes None body)

pub segments_are : (xs : List Slotted) → map (λ (y : Given). y.0) (map given_by xs) ≡ map elements_of (segs_in xs)
segments_are [] = refl
segments_are (x ∷ xs) = ap (λ (l : List Segment). elements_of x.0 ∷ l) (segments_are xs)

next_slotted : (ts : Trees) (last : Option Place) (s : SegValue) (rest : List SegValue) (o : Option Candidate) → next_for ts last s ≡ o
    → slotted_from ts last (s ∷ rest) ≡ slotted_at s o ++ slotted_from ts (last_place_after o last) rest
next_slotted ts last s rest o e = ap (λ (x : Option Candidate). slotted_at s x ++ slotted_from ts (last_place_after x last) rest) e

-- what is given a slot, with one segment more that has a place
pub slotted_placed : (ts : Trees) (last next : Option Place) (s : SegValue) (c : Candidate) → next_for ts last s ≡ Some c
    → next ≡ Some c.place → (taken : List Slotted) (rest : List SegValue)
    → (taken ++ (s, c.slot) ∷ []) ++ slotted_from ts next rest ≡ taken ++ slotted_from ts last (s ∷ rest)
slotted_placed ts last next s c e goes taken rest =
    append_assoc taken ((s, c.slot) ∷ []) (slotted_from ts next rest)
    ∙ ap (λ (l : Option Place). taken ++ (s, c.slot) ∷ slotted_from ts l rest) goes
    ∙ ap (λ (l : List Slotted). taken ++ l) (sym (next_slotted ts last s rest (Some c) e))

-- and with a stray
pub slotted_stray : (ts : Trees) (last : Option Place) (s : SegValue) → next_for ts last s ≡ None
    → (taken : List Slotted) (rest : List SegValue)
    → taken ++ slotted_from ts last rest ≡ taken ++ slotted_from ts last (s ∷ rest)
slotted_stray ts last s e taken rest = ap (λ (l : List Slotted). taken ++ l) (sym (next_slotted ts last s rest None e))
