use Rattle.std.proofs.Common.{◌∙◌}
use Rattle.elem_rules.proofs.Plain.{odd_by_one, odd_by_two}
use Rattle.elem_rules.proofs.clean.has_odd.Goals as goal

pub returns-in-None : goal.returns-in-None
returns-in-None c = c.has_odd_by.ensures ∙ odd_by_one c.args.delims c.args.text.now c.in-None.is

pub returns-in-Some : goal.returns-in-Some
returns-in-Some c = c.has_odd_by-in-Some.ensures ∙ odd_by_two c.args.delims c.args.text.now c.in-Some.separator c.in-Some.is
