use Rattle.std.proofs.Common.{sym, ◌∙◌}
use Rattle.elem_rules.proofs.Plain.{neither_found}
use Rattle.elem_rules.proofs.clean.look.Goals as goal

pub returns-then-not-has_odd-clause-plain : goal.returns-then-not-has_odd-clause-plain
returns-then-not-has_odd-clause-plain c =
    (neither_found c.args.delims c.args.text.now (sym c.has_odd.ensures ∙ c.if-not-has_odd.true)).0

pub returns-then-not-has_odd-clause-narrow : goal.returns-then-not-has_odd-clause-narrow
returns-then-not-has_odd-clause-narrow c =
    (neither_found c.args.delims c.args.text.now (sym c.has_odd.ensures ∙ c.if-not-has_odd.true)).1
