use Rattle.std.proofs.Common.{◌∙◌, ◌≡◌, List, ℕ, ap, inr, subst}
use Rattle.night_shelf.specs.Shelf.{Changes, MayLeave}
use Rattle.night_shelf.specs.declared.night.KeptNight.{KeptNight}
use Rattle.night_shelf.specs.declared.night.NightFile.{NightFile}
use Rattle.hub_command.proofs.Keeping.{night_is}
use Rattle.hub_command.proofs.run.keep_made.Goals as goal

pub returns-in-Ok-clause-stopped : goal.returns-in-Ok-clause-stopped
returns-in-Ok-clause-stopped g c =
    inr (subst (λ (night : KeptNight). Changes (MayLeave night) (g.S.Shelf.place c.args.shelf.now) (g.S.Shelf.place c.keep.new.shelf))
    (night_is c.as_slice.result.now c.as_slice-2.result.now c.args.made.now.night c.as_slice.ensures c.as_slice-2.ensures)
    c.keep.ensures.stopped)

pub returns-in-Err-clause-stopped : goal.returns-in-Err-clause-stopped
returns-in-Err-clause-stopped g c =
    inr (subst (λ (night : KeptNight). Changes (MayLeave night) (g.S.Shelf.place c.args.shelf.now) (g.S.Shelf.place c.keep.new.shelf))
    (night_is c.as_slice.result.now c.as_slice-2.result.now c.args.made.now.night c.as_slice.ensures c.as_slice-2.ensures)
    c.keep.ensures.stopped)
