use Rattle.std.proofs.Common.{inr}
use Rattle.night_command.proofs.Files.{all_put, front_of}
use Rattle.night_command.proofs.night.give_night.Goals as goal

pub returns-in-Ok-clause-left : goal.returns-in-Ok-clause-left
returns-in-Ok-clause-left g c failed =
    inr (all_put (g.S.Source.remaining c.args.source.now) c.args.setup.now c.args.at.now _ _ c.in-Ok.night c.in-Ok.ensures.night
    c.in-Ok.ensures.files)

pub returns-in-Err-clause-left : goal.returns-in-Err-clause-left
returns-in-Err-clause-left g c failed =
    front_of (g.S.Source.remaining c.args.source.now) c.args.setup.now c.args.at.now _ _ c.in-Err.failure c.in-Err.ensures.some

pub returns-in-Ok-clause-silent : goal.returns-in-Ok-clause-silent
returns-in-Ok-clause-silent g c failed =
    inr (record { night = c.in-Ok.night; by = c.in-Ok.ensures.night; files = c.in-Ok.ensures.files })
