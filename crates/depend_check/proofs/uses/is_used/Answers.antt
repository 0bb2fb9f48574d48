use Rattle.std.proofs.Common.{◌∙◌}
use Rattle.depend_check.specs.Dependencies.{is_use}
use Rattle.loop_match.specs.Viewed.{placed_view}
use Rattle.depend_check.proofs.Lists.{any_view}
use Rattle.depend_check.proofs.uses.is_used.Goals as goal

pub returns : goal.returns
returns c = c.has_use.ensures ∙ any_view (is_use c.args.label.now) placed_view c.args.placed.now
