use Rattle.std.proofs.Common.{ap, sym, ◌∙◌}
use Rattle.x12_segs.specs.Words.{elements_of}
use Rattle.guide_fast.specs.FirstPick.{may_pick}
use Rattle.guide_fast.proofs.FirstPicks.{no_fit}
use Rattle.guide_fast.proofs.strays.fits_picked.Goals as goal

pub returns-then-not-may_pick-clause-fits : goal.returns-then-not-may_pick-clause-fits
returns-then-not-may_pick-clause-fits c =
    let s = elements_of c.args.seg.now in
    sym (no_fit s c.args.slot.now (ap (may_pick s) (sym c.requires.pick) ∙ sym c.may_pick.ensures.value ∙ c.if-not-may_pick.true))
