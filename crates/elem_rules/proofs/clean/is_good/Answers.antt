use Rattle.std.proofs.Common.{ap, sym, ◌∙◌}
use Rattle.std.specs.Prelude.{Option, is_none}
use Rattle.hub_kinds.specs.declared.codes.ElementCode.{ElementCode}
use Rattle.elem_rules.proofs.Looks.{on_true}
use Rattle.elem_rules.proofs.PlainValues.{plain_good}
use Rattle.elem_rules.proofs.clean.is_good.Goals as goal

pub returns-then-is_plain_value : goal.returns-then-is_plain_value
returns-then-is_plain_value c =
    sym (ap (λ (o : Option ElementCode). is_none o) (plain_good c.args.row.now c.args.text.now
    (sym c.is_plain_value.ensures ∙ c.if-is_plain_value.true) (on_true c.args.narrow c.if-not-narrow.false c.requires)))
