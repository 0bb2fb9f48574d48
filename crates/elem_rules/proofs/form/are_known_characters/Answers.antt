use Rattle.std.proofs.Common.{sym}
use Rattle.elem_rules.proofs.Plain.{narrow_characters}
use Rattle.elem_rules.proofs.Looks.{on_true}
use Rattle.elem_rules.proofs.form.are_known_characters.Goals as goal

pub returns-then-narrow : goal.returns-then-narrow
returns-then-narrow c = sym (narrow_characters c.args.wide c.args.text.now (on_true c.args.narrow c.if-narrow.true c.requires))
