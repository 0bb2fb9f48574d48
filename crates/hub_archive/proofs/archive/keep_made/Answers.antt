use Rattle.std.proofs.Common.{inr, subst}
use Rattle.night_shelf.specs.Shelf.{Changes, IsKept, MayLeave}
use Rattle.night_shelf.specs.declared.night.KeptNight.{KeptNight}
use Rattle.hub_archive.proofs.Keeping.{night_is}
use Rattle.hub_archive.proofs.archive.keep_made.Goals as goal

pub returns-in-Ok-clause-kept : goal.returns-in-Ok-clause-kept
returns-in-Ok-clause-kept g c =
    subst (λ (night : KeptNight). Changes (IsKept night) (g.S.Shelf.place c.args.shelf.now) (g.S.Shelf.place c.keep.new.shelf))
    (night_is c.as_slice.result.now c.as_slice-2.result.now c.args.made.now.night c.as_slice.ensures c.as_slice-2.ensures)
    c.in-Ok.ensures.kept

pub returns-in-Ok-clause-stopped : goal.returns-in-Ok-clause-stopped
returns-in-Ok-clause-stopped g c =
    inr (subst (λ (night : KeptNight). Changes (MayLeave night) (g.S.Shelf.place c.args.shelf.now) (g.S.Shelf.place c.keep.new.shelf))
    (night_is c.as_slice.result.now c.as_slice-2.result.now c.args.made.now.night c.as_slice.ensures c.as_slice-2.ensures)
    c.keep.ensures.stopped)

pub returns-in-Err-clause-stopped : goal.returns-in-Err-clause-stopped
returns-in-Err-clause-stopped g c =
    inr (subst (λ (night : KeptNight). Changes (MayLeave night) (g.S.Shelf.place c.args.shelf.now) (g.S.Shelf.place c.keep.new.shelf))
    (night_is c.as_slice.result.now c.as_slice-2.result.now c.args.made.now.night c.as_slice.ensures c.as_slice-2.ensures)
    c.keep.ensures.stopped)
