use Rattle.std.proofs.Common.{◌∙◌}
use Rattle.night_breaches.proofs.Steps.{last_get}
use Rattle.night_breaches.proofs.checked.last_name.Goals as goal

pub returns-in-Some : goal.returns-in-Some
returns-in-Some c = c.as_slice.ensures ∙ last_get c.args.nights.now c.in-Some.night.now c.in-Some.ensures.value
