use Rattle.std.proofs.Common.{[], sym, ap, ◌∙◌}
use Rattle.guide_tree.specs.Words.{nodes_view}
use Rattle.guide_fast.specs.Silent.{are_none}
use Rattle.guide_fast.proofs.Silencing.{by_ends}
use Rattle.guide_fast.proofs.silent.is_end_silent.Goals as goal

pub returns : goal.returns
returns c at =
    c.is_ended_silent.ensures at []
    ∙ ap are_none (by_ends at (nodes_view c.args.top.now) c.args.last.now (sym c.is_empty.ensures ∙ c.if-is_empty.false))
