use Rattle.std.proofs.Common.{◌↔◌, List, map, length, subst, ap, ◌+◌}
use Rattle.std.specs.List.{Contains}
use Rattle.hub_kinds.specs.declared.fault.Fault.{Fault}
use Rattle.x12_segs.specs.Words.{elements_of}
use Rattle.guide_tree.specs.Words.{GuideTree, nodes_view}
use Rattle.guide_tree.specs.declared.node.Node.{Node}
use Rattle.guide_tree.specs.declared.rows.Dependency.{Dependency}
use Rattle.loop_match.specs.Given.{place_in}
use Rattle.loop_match.specs.PlacedSegments.{placed_segments}
use Rattle.depend_check.specs.Uses.{IsFound}
use Rattle.depend_check.proofs.Keyed.{keyed}
use Rattle.depend_check.proofs.check.check_by_rows.Goals as goal

pub in_order-requires : goal.in_order-requires
in_order-requires c =
    let rows = c.args.rows.now in
    let body = map elements_of c.args.segs.now in
    let given = map place_in c.args.placing.now.given in
    let ts = nodes_view rows.nodes.items in
    let end = length c.args.segs.now + 2 in
    keyed ts ts c.args.delims end body given rows.depends c.in_ok-find_in_body.field-0
    (ap (λ (g : GuideTree). g.nodes) c.requires.numbered)
    (subst (λ (ds : List Dependency). (f : Fault) → Contains c.in_ok-find_in_body.field-0 f
    ↔ IsFound ts c.args.delims end (placed_segments ts body given) ds f) c.as_slice-depends.ensures
    (subst (λ (ns : List Node). (f : Fault) → Contains c.in_ok-find_in_body.field-0 f
    ↔ IsFound (nodes_view ns) c.args.delims end (placed_segments (nodes_view ns) body given) c.as_slice-depends.result.now f)
    c.as_slice-nodes.ensures.value c.in_ok-find_in_body.ensures))

pub returns-clause-faults : goal.returns-clause-faults
returns-clause-faults c f =
    let rows = c.args.rows.now in
    let body = map elements_of c.args.segs.now in
    let given = map place_in c.args.placing.now.given in
    let ts = nodes_view rows.nodes.items in
    let end = length c.args.segs.now + 2 in
    let found = subst (λ (ds : List Dependency). Contains c.in_ok-find_in_body.field-0 f
    ↔ IsFound ts c.args.delims end (placed_segments ts body given) ds f) c.as_slice-depends.ensures
    (subst (λ (ns : List Node). Contains c.in_ok-find_in_body.field-0 f
    ↔ IsFound (nodes_view ns) c.args.delims end (placed_segments (nodes_view ns) body given) c.as_slice-depends.result.now f)
    c.as_slice-nodes.ensures.value (c.in_ok-find_in_body.ensures f)) in
    let same = c.in_order.ensures.same f in (
      λ h. let r = found.0 (same.0 h) in
          record { dependency = r.dependency; listed = r.listed; triggered = r.triggered; broken = r.broken },
      λ h. same.1 (found.1
          (record { dependency = h.dependency; listed = h.listed; triggered = h.triggered; broken = h.broken })),
    )
