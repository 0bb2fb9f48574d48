-- The faults of a set number elements from 1.
use Rattle.std.proofs.Common.{◌≡◌, inl, inr, ℕ, zero, suc, ◌+◌, ◌≤◌, List, [], ◌∷◌, Bool, true, Option, Some, None, sym, ap, ◌∙◌}
use Rattle.std.proofs.Common.{subst, arith, length}
use Rattle.std.specs.Prelude.{IsSomeAnd}
use Rattle.std.specs.List.{list_all}
use Rattle.std.proofs.lemmas.Bool.{and_parts}
use Rattle.std.proofs.lemmas.List.Elements.{All-contains}
use Rattle.x12_bytes.specs.declared.delims.Delims.{Delims}
use Rattle.hub_kinds.specs.declared.fault.Fault.{Fault}
use Rattle.hub_kinds.specs.declared.fault.ElemFault.{ElemFault}
use Rattle.guide_tree.specs.declared.slot.Slot.{Slot}
use Rattle.guide_tree.specs.declared.rows.HlRule.{HlRule}
use Rattle.guide_tree.specs.declared.rows.DependencyKind.{DependencyKind}
use Rattle.guide_tree.specs.declared.rows.DependencyKind.TheVariants as kind
use Rattle.guide_tree.specs.Words.{Trees, GuideTree, Segment, Place, IsStructureFault, IsSound, IsWellFormed, is_condition_of}
use Rattle.guide_tree.proofs.ForAbove.{In}
use Rattle.guide_law.proofs.ForAbove.{contains_in}
use Rattle.elem_rules.specs.Conditions.{is_present}
use Rattle.elem_rules.specs.Rows.{nth}
use Rattle.elem_rules.specs.ElementFaults.{IsElementFault}
use Rattle.elem_rules.proofs.ForAbove.{broken_within, positions_have_rows}
use Rattle.loop_match.specs.PlacedSegments.{PlacedSegment, placed_segments}
use Rattle.hl_check.specs.Hierarchy.{IsFaultAmong, hls_of}
use Rattle.depend_check.specs.Dependencies.{IsTargetBroken}
use Rattle.set_walk.proofs.ForAbove.{sound_places}
use Rattle.set_check.specs.SetParts.{SetParts}
use Rattle.set_check.specs.SetFaults.{IsErrorIn, IsRuleFault}
use Rattle.night_equal_set.specs.Order.{IsNumbered, IsPlain}

by_elem : (f : Fault) (o : Option ElemFault) → f.elem ≡ o → IsNumbered o → IsPlain f
by_elem f o e is = subst IsNumbered (sym e) is

pub structure_plain : (g : GuideTree) (body : List Segment) (given : List (Option Place)) (end : ℕ) (f : Fault)
    → IsStructureFault g body given end f → IsPlain f
structure_plain g body given end f (inl r) = by_elem f None (ap (λ (x : Fault). x.elem) r.is) tt
structure_plain g body given end f (inr (inl r)) = by_elem f None (ap (λ (x : Fault). x.elem) r.is) tt
structure_plain g body given end f (inr (inr r)) = by_elem f None (ap (λ (x : Fault). x.elem) r.is) tt

holds : {X : Type 0} (p : X → Bool) (xs : List X) (x : X) → list_all p xs ≡ true → In xs x → p x ≡ true
holds p [] x all h = absurd h
holds p (y ∷ ys) x all (inl e) = ap p (sym e) ∙ (and_parts (p y) (list_all p ys) all).0
holds p (y ∷ ys) x all (inr h) = holds p ys x (and_parts (p y) (list_all p ys) all).1 h

from_one : {X : Type 0} (rows : List X) (n : ℕ) (row : X) → nth rows n ≡ Some row → 1 ≤ n
from_one rows zero row there = let no : None ≡ Some row = there in cc
from_one rows (suc n) row there = omega arith

element_numbered : (d : Delims) (s : Segment) (slot : Slot) (e : ElemFault) → IsSound slot → IsElementFault d s slot e → 1 ≤ e.element
element_numbered d s slot e sound (inl r) =
    subst (λ n. 1 ≤ n) (sym (ap (λ (x : ElemFault). x.element) r.is)) (more (length slot.elements))
  where
    more : (n : ℕ) → 1 ≤ n + 1
    more n = omega arith
element_numbered d s slot e sound (inr (inl r)) =
    subst (λ n. 1 ≤ n) (sym (ap (λ (x : ElemFault). x.element) r.is)) (from_one slot.elements r.position r.row r.there)
element_numbered d s slot e sound (inr (inr r)) =
    let c = r.condition in
    let is = holds (is_condition_of slot) slot.conditions c sound.conditioned (contains_in slot.conditions c r.listed) in
    let within = All-contains (λ p. (1 ≤ p) × (p ≤ length slot.elements)) _ r.position
    (broken_within (is_present d s) c.relation (λ p. (1 ≤ p) × (p ≤ length slot.elements)) c.positions
    (positions_have_rows slot c is)) r.broken in
    subst (λ n. 1 ≤ n) (sym (ap (λ (x : ElemFault). x.element) r.is)) within.0

pub error_plain : (g : GuideTree) (parts : SetParts) (given : List (Option Place)) (f : Fault) → IsWellFormed g
    → IsErrorIn g.nodes parts given f → IsPlain f
error_plain g parts given f well r =
    by_elem f (Some r.elem) (ap (λ (x : Fault). x.elem) r.is)
    (element_numbered parts.delims r.segment r.slot r.elem (sound_places g well r.place r.slot r.leads) r.wrong)

hierarchy_plain : (g : GuideTree) (d : Delims) (body : List Segment) (given : List (Option Place)) (rule : Option HlRule) (f : Fault)
    → IsSomeAnd rule (λ r. IsFaultAmong r d (hls_of g.nodes body given) f) → IsPlain f
hierarchy_plain g d body given None f h = absurd h
hierarchy_plain g d body given (Some rule) f r = elim r.wrong [
  | inl w ↦ by_elem f _ (ap (λ (x : Fault). x.elem) w.1) (omega arith)
  | inr v ↦ elim v [
    | inl w ↦ by_elem f _ (ap (λ (x : Fault). x.elem) w.1) (omega arith)
    | inr u ↦ elim u [
      | inl w ↦ by_elem f _ (ap (λ (x : Fault). x.elem) w.1) (omega arith)
      | inr w ↦ by_elem f _ (ap (λ (x : Fault). x.elem) w.1) (omega arith)
    ]
  ]
]

from_suc : (n : ℕ) → 1 ≤ suc n
from_suc n = omega arith

target_plain : (ts : Trees) (d : Delims) (end : ℕ) (placed : List PlacedSegment) (label : List ℕ) (which : DependencyKind) (element : ℕ)
    (f : Fault) → IsTargetBroken ts d end placed label which element f → IsPlain f
target_plain ts d end placed label kind.Need zero f b = by_elem f None (ap (λ (x : Fault). x.elem) b.3) tt
target_plain ts d end placed label kind.Ban zero f b = by_elem f None (ap (λ (x : Fault). x.elem) b.3) tt
target_plain ts d end placed label kind.Need (suc e) f b = by_elem f _ (ap (λ (x : Fault). x.elem) b.2) (from_suc e)
target_plain ts d end placed label kind.Ban (suc e) f b = by_elem f _ (ap (λ (x : Fault). x.elem) b.2) (from_suc e)

pub rule_plain : (g : GuideTree) (d : Delims) (body : List Segment) (given : List (Option Place)) (end : ℕ) (f : Fault)
    → IsRuleFault g d body given end f → IsPlain f
rule_plain g d body given end f (inl h) = hierarchy_plain g d body given g.hl f h
rule_plain g d body given end f (inr r) =
    target_plain g.nodes d end (placed_segments g.nodes body given) r.dependency.target r.dependency.kind r.dependency.element f r.broken
