use Rattle.std.proofs.Common.{ℕ, List, subst}
use Rattle.std.proofs.lemmas.Result.{on_ok_weaker}
use Rattle.guide_tree.specs.Words.{nodes_view}
use Rattle.loop_match.specs.Viewed.{placed_views}
use Rattle.depend_check.specs.Uses.{HaveSameUses}
use Rattle.depend_check.proofs.Asking.{broken_added}
use Rattle.depend_check.proofs.asked.add_broken.Goals as goal

pub returns : goal.returns
returns c =
    let x = c.args.dependency.now in
    let uses = placed_views c.uses_of-uses.result.now in
    let all = placed_views c.args.placed.now in
    on_ok_weaker c.add_uses.result (λ added. broken_added (nodes_view c.args.nodes.now) c.args.delims c.args.end uses all x.target x.kind
    x.element c.args.faults.now c.add_left_out.new.faults c.add_uses.new.faults
    (subst (λ (l : List ℕ). HaveSameUses l uses all) c.as_slice.ensures c.uses_of-uses.ensures) c.in_ok-add_left_out.ensures added)
    c.add_uses.ensures
