use Rattle.std.proofs.Common.{List, ℕ}
use Rattle.std.proofs.lemmas.Result.{on_ok_weaker}
use Rattle.night_shelf.specs.Shelf.{IsKept, IsLaid, IsNamedOnDisk, KeepsNights, MayLeave, MayName}
use Rattle.night_shelf.specs.declared.night.KeptNight.{KeptNight}
use Rattle.night_shelf.proofs.Changing.{both, laid_kept, laid_stopped, only_kept, weaker}
use Rattle.night_shelf.proofs.keeping.keep.Goals as goal

pub returns-in_err-lay-clause-stopped : goal.returns-in_err-lay-clause-stopped
returns-in_err-lay-clause-stopped g c =
    let night : KeptNight = record { name = c.args.name.now; files = c.args.files.now } in
    weaker KeepsNights (MayLeave night) (only_kept night) (g.S.Shelf.place c.args.shelf.now) (g.S.Shelf.place c.lay.new.shelf)
    c.lay.ensures.nights

pub returns-clause-kept : goal.returns-clause-kept
returns-clause-kept g c =
    let name : List ℕ = c.args.name.now in
    let files = c.args.files.now in
    let night : KeptNight = record { name = name; files = files } in
    on_ok_weaker c.give_name.result
    (λ named. both (IsLaid files) (IsNamedOnDisk name) (IsKept night) (laid_kept name files) (g.S.Shelf.place c.args.shelf.now)
    (g.S.Shelf.place c.lay.new.shelf) (g.S.Shelf.place c.give_name.new.shelf) c.in_ok-lay.ensures.laid named) c.give_name.ensures.kept

pub returns-clause-stopped : goal.returns-clause-stopped
returns-clause-stopped g c =
    let name : List ℕ = c.args.name.now in
    let files = c.args.files.now in
    let night : KeptNight = record { name = name; files = files } in
    both (IsLaid files) (MayName name) (MayLeave night) (laid_stopped name files) (g.S.Shelf.place c.args.shelf.now)
    (g.S.Shelf.place c.lay.new.shelf) (g.S.Shelf.place c.give_name.new.shelf) c.in_ok-lay.ensures.laid c.give_name.ensures.stopped
