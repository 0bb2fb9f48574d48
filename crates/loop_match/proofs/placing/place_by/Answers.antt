use Rattle.std.proofs.Common.{◌∙◌, ap, sym, subst, map, None, length, List, ◌+◌}
use Rattle.std.specs.List.{Contains}
use Rattle.hub_kinds.specs.declared.fault.Fault.{Fault}
use Rattle.x12_segs.specs.Words.{elements_of}
use Rattle.guide_tree.specs.Words.{guide_of, nodes_view, IsPlacing}
use Rattle.guide_law.proofs.ForAbove.{is_placing, members, triggers}
use Rattle.loop_match.specs.Given.{place_in, slot_in}
use Rattle.loop_match.proofs.Numbered.{found_keyed}
use Rattle.loop_match.proofs.Giving.{places_given, slots_given}
use Rattle.loop_match.proofs.placing.place_by.Goals as goal

pub returns-clause-places : goal.returns-clause-places
returns-clause-places g c =
    ap (map place_in) c.in_ok-pass.ensures.given
    ∙ places_given (nodes_view (g.N.NextPlace.guide c.args.next.now).nodes.items) None (map elements_of c.args.segs.now)

pub returns-clause-placing : goal.returns-clause-placing
returns-clause-placing g c =
    let ts = nodes_view (g.N.NextPlace.guide c.args.next.now).nodes.items in
    let body = map elements_of c.args.segs.now in
    subst (IsPlacing ts None body) (sym (returns-clause-places g c))
    (is_placing ts (triggers (guide_of (g.N.NextPlace.guide c.args.next.now)) c.in_ok-pass.ensures.accepted.well_formed) body)

pub returns-clause-slots : goal.returns-clause-slots
returns-clause-slots g c =
    ap (map slot_in) c.in_ok-pass.ensures.given
    ∙ slots_given (nodes_view (g.N.NextPlace.guide c.args.next.now).nodes.items) None (map elements_of c.args.segs.now)

pub in_order-requires : goal.in_order-requires
in_order-requires g c =
    found_keyed (g.N.NextPlace.guide c.args.next.now) (map elements_of c.args.segs.now) (length c.args.segs.now + 2)
    c.into_faults.result c.in_ok-pass.ensures.accepted (c.into_faults.ensures ∙ c.in_ok-pass.ensures.found)

pub returns-clause-faults : goal.returns-clause-faults
returns-clause-faults g c f =
    let tree = guide_of (g.N.NextPlace.guide c.args.next.now) in
    let body = map elements_of c.args.segs.now in
    let found = c.into_faults.ensures ∙ c.in_ok-pass.ensures.found in
    let all = members tree c.in_ok-pass.ensures.accepted.well_formed body (length c.args.segs.now + 2) f in
    let same = c.in_order.ensures.same f in (
      λ h. all.0 (subst (λ (l : List Fault). Contains l f) found (same.0 h)),
      λ h. same.1 (subst (λ (l : List Fault). Contains l f) (sym found) (all.1 h)),
    )
