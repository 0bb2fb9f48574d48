use Rattle.std.proofs.Common.{◌∙◌}
use Rattle.loop_match.specs.Viewed.{placed_view}
use Rattle.depend_check.specs.Dependencies.{is_trigger}
use Rattle.depend_check.proofs.Lists.{any_view}
use Rattle.depend_check.proofs.few.is_triggered.Goals as goal

pub returns : goal.returns
returns c = c.has_trigger.ensures ∙ any_view (is_trigger c.args.dependency.now) placed_view c.args.placed.now
