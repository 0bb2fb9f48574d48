use Rattle.std.proofs.Common.{◌∙◌}
use Rattle.record_review.proofs.Last.{last_get}
use Rattle.record_review.proofs.lines.last_sum.Goals as goal

pub returns-in-Some : goal.returns-in-Some
returns-in-Some c = c.as_slice.ensures ∙ last_get c.args.nights.now c.in-Some.night.now c.in-Some.ensures.value
