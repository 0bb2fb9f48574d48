-- The theorem between placing and grammar, in a guide that has no fault: by the pass, which meets the structural faults, and none
-- where a body is derived.
use Rattle.std.proofs.Common.{◌≡◌, ℕ, inl, List, [], ◌∷◌, map, Option, Some, None, refl, sym, ◌∙◌, ap, subst}
use Rattle.hub_kinds.specs.declared.fault.Fault.{Fault}
use Rattle.guide_tree.specs.declared.slot.Slot.{Slot}
use Rattle.guide_tree.specs.Words.{Trees, GuideTree, Segment, IsWellFormed, Place, slot_at, slot_given, IsPlacing, IsStructureFault}
use Rattle.guide_tree.specs.Words.{Given, placing_of, structure_faults}
use Rattle.guide_tree.proofs.ForAbove.{In}
use Rattle.guide_law.specs.Law.{DerivedIsPlaced, PlacedIsDerived, DerivedHasPlacing}
use Rattle.guide_law.proofs.Among.{in_contains, contains_in}
use Rattle.guide_law.proofs.Placed.{triggers, no_rivals, placed_one_way}
use Rattle.guide_law.proofs.Meeting.{derived_placed, met_derived}
use Rattle.guide_law.proofs.Computed.{is_placing, only_placing}
use Rattle.guide_law.proofs.Passing.{derived_clean}
use Rattle.guide_law.proofs.Cleaning.{clean}
use Rattle.guide_law.proofs.Faulty.{members}

slots_given : (ts : Trees) (places : List Place) → map (slot_given ts) (map Some places) ≡ map (slot_at ts) places
slots_given ts [] = refl
slots_given ts (q ∷ places) = ap (λ (l : List (Option Slot)). slot_at ts q ∷ l) (slots_given ts places)

none_in : (xs : List Fault) → ((x : Fault) → In xs x → ⊥) → xs ≡ []
none_in [] h = refl
none_in (x ∷ xs) h = absurd (h x (inl refl))

only : (g : GuideTree) (body : List Segment) (given : List (Option Place)) → IsWellFormed g → IsPlacing g.nodes None body given
    → given ≡ placing_of g.nodes body
only g body given w pl = (only_placing g (triggers g w) (placed_one_way g w) body given).0 pl

-- a placing has a fault exactly where the pass meets it
faults_met : (g : GuideTree) (body : List Segment) (given : List (Option Place)) (end : ℕ) (x : Fault) → IsWellFormed g
    → IsPlacing g.nodes None body given → IsStructureFault g body given end x
    → In (structure_faults g end body (placing_of g.nodes body)) x
faults_met g body given end x w pl h =
    contains_in (structure_faults g end body (placing_of g.nodes body)) x
    ((members g w body end x).1 (subst (λ (l : List (Option Place)). IsStructureFault g body l end x) (only g body given w pl) h))

met_faults : (g : GuideTree) (body : List Segment) (given : List (Option Place)) (end : ℕ) (x : Fault) → IsWellFormed g
    → IsPlacing g.nodes None body given → In (structure_faults g end body given) x → IsStructureFault g body given end x
met_faults g body given end x w pl h =
    let e = only g body given w pl in
    subst (λ (l : List (Option Place)). IsStructureFault g body l end x) (sym e)
    ((members g w body end x).0 (in_contains (structure_faults g end body (placing_of g.nodes body)) x
    (subst (λ (l : List (Option Place)). In (structure_faults g end body l) x) e h)))

pub derived_is_placed : (g : GuideTree) → IsWellFormed g → DerivedIsPlaced g
derived_is_placed g w xs given end d pl =
    let body = map (λ (x : Given). x.0) xs in
    let r = derived_placed g.nodes xs given (triggers g w) (no_rivals g w) d pl in (
      (λ f x. subst (λ (l : List Fault). In l f) (derived_clean g w xs end d) (faults_met g body given end f w pl x)),
      ap (map (slot_given g.nodes)) r.is ∙ slots_given g.nodes r.places ∙ r.slots,
    )

pub placed_is_derived : (g : GuideTree) → IsWellFormed g → PlacedIsDerived g
placed_is_derived g w body given end pl ok =
    let h = triggers g w in
    let e = none_in (structure_faults g end body given) (λ x i. ok x (met_faults g body given end x w pl i)) in
    let c = clean g end body given h pl e in
    let r = met_derived g.nodes body c.places h (subst (λ (l : List (Option Place)). IsPlacing g.nodes None body l) c.is pl) c.met in
    (r.given, r.body_is, r.derived, ap (map (slot_given g.nodes)) c.is ∙ slots_given g.nodes c.places ∙ r.slots)

pub derived_has_placing : (g : GuideTree) → IsWellFormed g → DerivedHasPlacing g
derived_has_placing g w xs d =
    let body = map (λ (x : Given). x.0) xs in (placing_of g.nodes body, is_placing g.nodes (triggers g w) body)
