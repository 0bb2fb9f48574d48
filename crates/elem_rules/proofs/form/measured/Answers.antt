use Rattle.elem_rules.proofs.Measures.{number_measured}
use Rattle.elem_rules.proofs.form.measured.Goals as goal

pub returns-in-Number : goal.returns-in-Number
returns-in-Number c = number_measured c.args.data_type c.in-Number.field-0 c.args.wide c.without_sign.result.now c.args.text.now
    c.whole_digits.result c.in-Number.is c.without_sign.ensures c.whole_digits.ensures
