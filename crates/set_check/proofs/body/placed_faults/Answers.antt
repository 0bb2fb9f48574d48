use Rattle.std.proofs.Common.{◌≡◌, ◌↔◌, ◌∙◌, ◌+◌, ap, sym, subst, List, map, length}
use Rattle.std.specs.List.{All, Contains}
use Rattle.hub_kinds.specs.declared.fault.Fault.{Fault}
use Rattle.hub_kinds.specs.Words.{AreRising}
use Rattle.x12_segs.specs.Words.{SegValue, elements_of}
use Rattle.guide_tree.specs.Words.{placing_of, slot_given, IsStructureFault, guide_of}
use Rattle.loop_match.specs.Given.{place_in}
use Rattle.set_check.specs.Placed.{IsPlacedBy}
use Rattle.set_check.proofs.Whole.{read_inside, first_keyed, set_members, set_keyed_members}
use Rattle.set_check.proofs.body.placed_faults.Goals as goal

pub element_faults-requires : goal.element_faults-requires
element_faults-requires c =
    let placed =
    subst (λ (l : List SegValue). IsPlacedBy c.args.guide.now l c.args.placing) (sym c.inner_of-body.ensures) c.requires.placed in
    placed.slots
    ∙ ap (map (slot_given (guide_of c.args.guide.now).nodes)) (sym placed.places)

pub with_others-requires : goal.with_others-requires
with_others-requires c =
    let placed =
    subst (λ (l : List SegValue). IsPlacedBy c.args.guide.now l c.args.placing) (sym c.inner_of-body.ensures) c.requires.placed in
    first_keyed (guide_of c.args.guide.now) c.args.set.now.delims c.args.set.now.closed c.args.segs.now c.inner_of-body.result.now
    (map place_in c.args.placing.given) c.in_ok-errors.ensures.well c.requires.read c.inner_of-body.ensures
    placed.places c.in_ok-errors.errors c.in_ok-errors.ensures.errors

pub in_order-requires : goal.in_order-requires
in_order-requires c =
    let placed =
    subst (λ (l : List SegValue). IsPlacedBy c.args.guide.now l c.args.placing) (sym c.inner_of-body.ensures) c.requires.placed in
    let d = c.args.set.now.delims in
    let body = c.inner_of-body.result.now in
    let kept = c.into_faults.ensures in
    let inside : All (λ (s : SegValue). s.delims ≡ d) body =
    subst (All (λ (s : SegValue). s.delims ≡ d)) (sym c.inner_of-body.ensures)
    (read_inside d c.args.set.now.closed c.args.segs.now c.requires.read) in
    set_keyed_members (guide_of c.args.guide.now) d c.args.set.now.closed c.args.segs.now body
    (map place_in c.args.placing.given) c.in_ok-errors.ensures.well c.requires.read c.inner_of-body.ensures
    placed.places c.in_ok-errors.errors c.in_ok-others.others c.in_ok-faults.faults
    c.into_faults.result c.append.new.self (record {
      errors = c.in_ok-errors.ensures.errors;
      others = c.in_ok-others.ensures.exact d inside;
      keyed = c.in_ok-others.ensures.keyed d inside;
      found = c.in_ok-faults.ensures;
      structure = subst (λ (l : List Fault). (f : Fault) → Contains l f ↔ IsStructureFault (guide_of c.args.guide.now)
          (map elements_of body) (placing_of (guide_of c.args.guide.now).nodes (map elements_of body)) (length body + 2) f) (sym kept)
          placed.faults;
      rising = subst AreRising (sym kept) placed.rising;
      all = c.in_ok-append.ensures;
    })

pub returns-clause-exact : goal.returns-clause-exact
returns-clause-exact c =
    let placed =
    subst (λ (l : List SegValue). IsPlacedBy c.args.guide.now l c.args.placing) (sym c.inner_of-body.ensures) c.requires.placed in
    let d = c.args.set.now.delims in
    let body = c.inner_of-body.result.now in
    let kept = c.into_faults.ensures in
    let inside : All (λ (s : SegValue). s.delims ≡ d) body =
    subst (All (λ (s : SegValue). s.delims ≡ d)) (sym c.inner_of-body.ensures)
    (read_inside d c.args.set.now.closed c.args.segs.now c.requires.read) in
    let are =
    set_members (guide_of c.args.guide.now) d c.args.set.now.closed c.args.segs.now body
    (map place_in c.args.placing.given) c.in_ok-errors.ensures.well c.requires.read c.inner_of-body.ensures
    placed.places c.in_ok-errors.errors c.in_ok-others.others c.in_ok-faults.faults
    c.into_faults.result c.append.new.self (record {
      errors = c.in_ok-errors.ensures.errors;
      others = c.in_ok-others.ensures.exact d inside;
      keyed = c.in_ok-others.ensures.keyed d inside;
      found = c.in_ok-faults.ensures;
      structure = subst (λ (l : List Fault). (f : Fault) → Contains l f ↔ IsStructureFault (guide_of c.args.guide.now)
          (map elements_of body) (placing_of (guide_of c.args.guide.now).nodes (map elements_of body)) (length body + 2) f) (sym kept)
          placed.faults;
      rising = subst AreRising (sym kept) placed.rising;
      all = c.in_ok-append.ensures;
    }) in
    λ f. (λ x. (are f).0 ((c.in_order.ensures.same f).0 x), λ y. (c.in_order.ensures.same f).1 ((are f).1 y))
