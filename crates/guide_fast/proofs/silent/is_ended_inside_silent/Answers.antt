use Rattle.guide_tree.specs.Words.{view}
use Rattle.guide_fast.proofs.Silencing.{end_inside}
use Rattle.guide_fast.proofs.silent.is_ended_inside_silent.Goals as goal

pub returns-in-Some : goal.returns-in-Some
returns-in-Some c at =
    end_inside at (view c.args.node.now) c.in-Some.inner.now c.args.place.now c.is_ended_silent.result c.in-Some.ensures.shape
    (c.is_ended_silent.ensures at)
