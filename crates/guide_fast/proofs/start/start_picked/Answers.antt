use Rattle.std.proofs.Common.{ap, sym, ◌∙◌}
use Rattle.x12_segs.specs.Words.{elements_of}
use Rattle.guide_tree.specs.Words.{view}
use Rattle.guide_fast.specs.FirstPick.{may_pick}
use Rattle.guide_fast.proofs.FirstPicks.{no_start_picked}
use Rattle.guide_fast.proofs.start.start_picked.Goals as goal

pub returns-then-not-may_pick-clause-start : goal.returns-then-not-may_pick-clause-start
returns-then-not-may_pick-clause-start c =
    let s = elements_of c.args.seg.now in
    sym (no_start_picked s (view c.args.node.now)
    (ap (may_pick s) (sym c.requires.pick) ∙ sym c.may_pick.ensures.value ∙ c.if-not-may_pick.true))
