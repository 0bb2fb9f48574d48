use Rattle.std.proofs.Common.{◌∙◌}
use Rattle.guide_warnings.proofs.Calendar.{dates, times}
use Rattle.guide_warnings.proofs.codes.has_form.Goals as goal

pub returns-then-is_digits : goal.returns-then-is_digits
returns-then-is_digits c = c.is_date.ensures ∙ dates c.args.row.now c.args.code.now c.in-Date.is

pub returns-then-is_digits-2 : goal.returns-then-is_digits-2
returns-then-is_digits-2 c = c.is_time.ensures ∙ times c.args.row.now c.args.code.now c.in-Time.is
