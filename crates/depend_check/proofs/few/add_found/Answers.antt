use Rattle.std.proofs.Common.{sym, ◌∙◌}
use Rattle.std.proofs.lemmas.Result.{on_ok_weaker}
use Rattle.guide_tree.specs.Words.{nodes_view}
use Rattle.loop_match.specs.Viewed.{placed_views}
use Rattle.depend_check.proofs.Asking.{found_by_broken, not_found_by}
use Rattle.depend_check.proofs.few.add_found.Goals as goal

pub returns-then-not-is_triggered : goal.returns-then-not-is_triggered
returns-then-not-is_triggered c =
    not_found_by (nodes_view c.args.nodes.now) c.args.delims c.args.end (placed_views c.args.placed.now) c.args.dependency.now
    c.args.faults.now (sym c.is_triggered.ensures ∙ c.if-not-is_triggered.true)

pub returns : goal.returns
returns c = on_ok_weaker c.add_broken_by.result
    (λ added. found_by_broken (nodes_view c.args.nodes.now) c.args.delims c.args.end (placed_views c.args.placed.now)
    c.args.dependency.now c.args.faults.now c.add_broken_by.new.faults
    (sym c.is_triggered.ensures ∙ c.if-not-is_triggered.false) added) c.add_broken_by.ensures
