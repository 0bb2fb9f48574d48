use Rattle.std.proofs.Common.{◌∙◌}
use Rattle.day_command.proofs.LastNight.{last_get}
use Rattle.day_command.proofs.run.last_name.Goals as goal

pub returns-in-Some : goal.returns-in-Some
returns-in-Some c = c.as_slice.ensures ∙ last_get c.args.entries.now c.in-Some.night.now c.in-Some.ensures.value
