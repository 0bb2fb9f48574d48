-- The element faults of a set's segments.
use Rattle.std.proofs.Common.{◌≡◌, ◌↔◌, ℕ, ◌+◌, List, map, Option, Some, None, refl, sym, ap, ◌∙◌, subst, arith}
use Rattle.std.specs.Prelude.{flat_map}
use Rattle.std.specs.List.{Contains}
use Rattle.x12_bytes.specs.declared.delims.Delims.{Delims}
use Rattle.hub_kinds.specs.declared.fault.Fault.{Fault}
use Rattle.hub_kinds.specs.declared.fault.ElemFault.{ElemFault}
use Rattle.hub_kinds.specs.declared.codes.SegmentCode.TheVariants as ik304
use Rattle.guide_tree.specs.Tree.{GuideTree}
use Rattle.guide_tree.specs.Words.{placing_of}
use Rattle.elem_rules.proofs.ForAbove.{from_flat_map, in_flat_map}
use Rattle.loop_match.specs.LoopIds.{loop_id_of}
use Rattle.loop_match.specs.PlacedSegments.{PlacedSegment}
use Rattle.set_check.specs.SetParts.{SetParts}
use Rattle.set_check.specs.SetFaults.{IsErrorIn, fault_of_element}
use Rattle.night_definition.specs.Envelopes.{Set}
use Rattle.night_definition.specs.Places.{Use, placing, uses}
use Rattle.night_definition.specs.Elements.{element_faults}
use Rattle.night_definition.specs.Rules.{use_fault}
use Rattle.night_definition.specs.Sets.{body_of}
use Rattle.night_equal_set.specs.Parts.{IsThatSet}
use Rattle.night_equal_set.specs.Hl.{seen}
use Rattle.night_equal_set.specs.Errors.{errors, HasConditions, ErrorsAreOne}
use Rattle.night_equal_set.proofs.ElementFaults as law
use Rattle.night_equal_set.proofs.PlacedSegments.{from_front, at_from, at_to, uses_front}
use Rattle.night_equal_set.proofs.Dependencies.{from_map, in_map}

module _ (g : GuideTree) (parts : SetParts) (f : Fault) (sound : HasConditions g) where
  abbrev all : List Use
  all = uses (placing g.nodes None 2 parts.body)

  abbrev of_use : Use → List Fault
  of_use x = map (λ e. use_fault x ik304.ElementErrors (Some e)) (element_faults parts.delims x.spot.slot x.segment)

  to : Contains (errors g parts.delims parts.body) f → IsErrorIn g.nodes parts (placing_of g.nodes parts.body) f
  to c =
      let a = from_flat_map of_use all f c in
      let x = a.0 in
      let b = from_map (λ e. use_fault x ik304.ElementErrors (Some e)) (element_faults parts.delims x.spot.slot x.segment) f a.2 in
      let there : Contains (from_front g.nodes 0 parts.body (placing_of g.nodes parts.body)) (seen x) =
      subst (λ l. Contains l (seen x)) (uses_front g.nodes parts.body) (in_map seen all x a.1) in
      let at = at_from g.nodes 0 parts.body (placing_of g.nodes parts.body) (seen x) there in
      record {
        index = at.index;
        segment = x.segment;
        place = at.place;
        slot = x.spot.slot;
        elem = b.0;
        there = at.segment;
        placed = at.given_place;
        leads = at.slot;
        wrong = (law.element_faults parts.delims x.spot.slot x.segment b.0 (sound at.place x.spot.slot at.slot)).0 b.1;
        is = b.2
            ∙ ap (λ n. fault_of_element n x.segment x.spot.loop_id x.spot.slot b.0) (at.position ∙ on at.index)
            ∙ ap (λ id. fault_of_element (at.index + 2) x.segment id x.spot.slot b.0) at.loop_id;
      }
    where
      on : (k : ℕ) → 0 + k + 2 ≡ k + 2
      on k = omega arith

  from : IsErrorIn g.nodes parts (placing_of g.nodes parts.body) f → Contains (errors g parts.delims parts.body) f
  from h =
      let p : PlacedSegment = record {
        position = 0 + h.index + 2;
        segment = h.segment;
        slot = h.slot;
        loop_id = loop_id_of g.nodes h.place;
      } in
      let there = subst (λ l. Contains l p) (sym (uses_front g.nodes parts.body))
      (at_to g.nodes 0 parts.body (placing_of g.nodes parts.body) h.index h.segment h.place h.slot h.placed h.there h.leads) in
      let r = from_map seen all p there in
      let x = r.0 in
      let told : Contains (element_faults parts.delims h.slot h.segment) h.elem =
      (law.element_faults parts.delims h.slot h.segment h.elem (sound h.place h.slot h.leads)).1 h.wrong in
      let here = subst (λ (p : PlacedSegment). Contains (element_faults parts.delims p.slot p.segment) h.elem) r.2 told in
      in_flat_map of_use all x f r.1
      (subst (λ z. Contains (of_use x) z) (sym
      (h.is ∙ ap (λ n. fault_of_element n h.segment (loop_id_of g.nodes h.place) h.slot h.elem) (on h.index)
      ∙ ap (λ (p : PlacedSegment). fault_of_element p.position p.segment p.loop_id p.slot h.elem) r.2))
      (in_map (λ e. use_fault x ik304.ElementErrors (Some e)) (element_faults parts.delims x.spot.slot x.segment) h.elem here))
    where
      on : (k : ℕ) → k + 2 ≡ 0 + k + 2
      on k = omega arith

pub errors_are : ErrorsAreOne
errors_are g d set parts f is sound = (
  λ c. to g parts f sound (subst (λ e. Contains (errors g e parts.body) f) (sym is.delims)
      (subst (λ b. Contains (errors g d b) f) (sym is.body) c)),
  λ h. subst (λ b. Contains (errors g d b) f) is.body (subst (λ e. Contains (errors g e parts.body) f) is.delims
      (from g parts f sound h)),
)
