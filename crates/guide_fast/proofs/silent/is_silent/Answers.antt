use Rattle.std.proofs.Common.{[], sym, ap, ◌∙◌}
use Rattle.guide_tree.specs.Words.{nodes_view}
use Rattle.guide_fast.specs.Silent.{are_none}
use Rattle.guide_fast.proofs.Stepping.{by_steps}
use Rattle.guide_fast.proofs.silent.is_silent.Goals as goal

pub returns : goal.returns
returns c at =
    c.is_stepped_silent.ensures at []
    ∙ ap are_none (by_steps at (nodes_view c.args.top.now) c.args.last.now c.args.next.now c.in-Some.to.now c.in-Some.field-0-1.now
    (sym c.is_empty.ensures ∙ c.if-is_empty.false) c.in-Some.ensures.cases.0)
