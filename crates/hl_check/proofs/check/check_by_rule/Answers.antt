use Rattle.std.proofs.Common.{◌≡◌, List, map, length, sym, subst, ap, ◌∙◌}
use Rattle.std.specs.List.{Contains}
use Rattle.std.proofs.lemmas.List.{length-map}
use Rattle.hub_kinds.specs.declared.fault.Fault.{Fault}
use Rattle.x12_segs.specs.Words.{elements_of}
use Rattle.guide_tree.specs.Words.{nodes_view}
use Rattle.loop_match.specs.Given.{place_in}
use Rattle.loop_match.specs.PlacedSegments.{PlacedSegment}
use Rattle.hl_check.specs.Hierarchy.{hls_of}
use Rattle.hl_check.specs.Found.{found_faults}
use Rattle.loop_match.specs.Viewed.{placed_view, placed_views}
use Rattle.hl_check.proofs.Faulty.{members}
use Rattle.hl_check.proofs.Keyed.{keyed}
use Rattle.hl_check.proofs.check.check_by_rule.Goals as goal

pub in_order-requires : goal.in_order-requires
in_order-requires c =
    let given = map place_in c.args.placing.now.given in
    let body = map elements_of c.args.segs.now in
    let ts = nodes_view c.args.nodes.now in
    keyed ts body given c.args.rule.now c.args.delims c.in_ok-find_faults.field-0
    (c.in_ok-find_faults.ensures
    ∙ ap (found_faults c.args.rule.now c.args.delims (placed_views c.as_slice.result.now))
    (sym (length-map c.as_slice.result.now placed_view))
    ∙ ap (λ (hls : List PlacedSegment). found_faults c.args.rule.now c.args.delims hls (length hls))
    (ap placed_views c.as_slice.ensures.value ∙ c.in_ok-hls.ensures))

pub returns-clause-faults : goal.returns-clause-faults
returns-clause-faults c f =
    let given = map place_in c.args.placing.now.given in
    let body = map elements_of c.args.segs.now in
    let all = hls_of (nodes_view c.args.nodes.now) body given in
    let found : c.in_ok-find_faults.field-0 ≡ found_faults c.args.rule.now c.args.delims all (length all) =
    c.in_ok-find_faults.ensures
    ∙ ap (found_faults c.args.rule.now c.args.delims (placed_views c.as_slice.result.now))
    (sym (length-map c.as_slice.result.now placed_view))
    ∙ ap (λ (hls : List PlacedSegment). found_faults c.args.rule.now c.args.delims hls (length hls))
    (ap placed_views c.as_slice.ensures.value ∙ c.in_ok-hls.ensures) in
    let both = members c.args.rule.now c.args.delims all f in
    let same = c.in_order.ensures.same f in (
      λ h. both.0 (subst (λ (l : List Fault). Contains l f) found (same.0 h)),
      λ h. same.1 (subst (λ (l : List Fault). Contains l f) (sym found) (both.1 h)),
    )
