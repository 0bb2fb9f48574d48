use Rattle.std.proofs.lemmas.Result.{on_ok_weaker}
use Rattle.guide_tree.specs.Words.{nodes_view}
use Rattle.loop_match.specs.Viewed.{placed_views}
use Rattle.depend_check.proofs.Asking.{broken_added, same_uses}
use Rattle.depend_check.proofs.few.add_broken_by.Goals as goal

pub returns : goal.returns
returns c =
    let x = c.args.dependency.now in
    let all = placed_views c.args.placed.now in
    on_ok_weaker c.add_uses.result (λ added. broken_added (nodes_view c.args.nodes.now) c.args.delims c.args.end all all x.target x.kind
    x.element c.args.faults.now c.add_left_out.new.faults c.add_uses.new.faults (same_uses x.target all)
    c.in_ok-add_left_out.ensures added) c.add_uses.ensures
