use Rattle.std.proofs.Common.{◌↔◌, length, map, ◌+◌, List, sym, subst, ap, ◌∙◌}
use Rattle.std.specs.List.{Contains, filter}
use Rattle.std.proofs.lemmas.Result.{IfOk-weaker}
use Rattle.x12_segs.specs.Words.{elements_of}
use Rattle.guide_tree.specs.Words.{nodes_view}
use Rattle.loop_match.specs.Given.{place_in}
use Rattle.loop_match.specs.PlacedSegments.{PlacedSegment, placed_segments}
use Rattle.loop_match.specs.Viewed.{placed_views}
use Rattle.depend_check.specs.Uses.{is_labelled, IsFound}
use Rattle.depend_check.proofs.Asking.{found_of, labelled_uses}
use Rattle.depend_check.proofs.check.find_in_body.Goals as goal

pub returns : goal.returns
returns c =
    let ts = nodes_view c.args.nodes.now in
    let all : List PlacedSegment = placed_segments ts (map elements_of c.args.segs.now) (map place_in c.args.placing.now.given) in
    let kept : List PlacedSegment = placed_views c.sort_by_label.new.placed.items in
    let same : (p : PlacedSegment) → Contains (placed_views c.as_slice-2.result.now) p ↔ Contains (filter is_labelled all) p =
    λ p. subst
    (λ (l : List PlacedSegment). Contains l p ↔ Contains (filter is_labelled all) p) (sym (ap placed_views c.as_slice-2.ensures.value))
    (subst (λ (l : List PlacedSegment). Contains kept p ↔ Contains l p)
    (c.keep_labelled.ensures ∙ ap (filter is_labelled) c.in_ok-placed.ensures) (c.sort_by_label.ensures.same p)) in
    let uses = labelled_uses all (placed_views c.as_slice-2.result.now) same in
    IfOk-weaker c.find_faults.result _ _ (λ v told f.
    let moved = found_of ts c.args.delims (length c.args.segs.now + 2)
    (placed_views c.as_slice-2.result.now) all c.args.depends.now f uses in
    (λ h. moved.0 ((told f).0 h), λ h. (told f).1 (moved.1 h))) c.find_faults.ensures

pub returns-then-depends-le-FEW : goal.returns-then-depends-le-FEW
returns-then-depends-le-FEW c =
    IfOk-weaker c.find_few.result _ _ (λ v told f.
    subst (λ (l : List PlacedSegment). Contains v f ↔ IsFound (nodes_view c.args.nodes.now) c.args.delims
    (length c.args.segs.now + 2) l c.args.depends.now f) (ap placed_views c.as_slice.ensures.value ∙ c.in_ok-placed.ensures) (told f))
    c.find_few.ensures
