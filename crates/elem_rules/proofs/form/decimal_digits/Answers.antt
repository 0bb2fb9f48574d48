use Rattle.std.proofs.Common.{arith, sym, ◌∙◌}
use Rattle.elem_rules.proofs.Measures.{decimal_good, decimal_none}
use Rattle.elem_rules.proofs.form.decimal_digits.Goals as goal

pub returns-then-digits-eq0 : goal.returns-then-digits-eq0
returns-then-digits-eq0 c = decimal_none c.args.text.now c.points-points.result (sym c.if-not-are_digits_or_points.false
    ∙ c.are_digits_or_points.ensures) c.points-points.ensures.value c.if-digits-eq0.true

pub returns : goal.returns
returns c =
    let some = c.if-digits-eq0.false in
    decimal_good c.args.text.now c.points-points.result (sym c.if-not-are_digits_or_points.false
    ∙ c.are_digits_or_points.ensures) c.points-points.ensures.value c.if-points-gt1.false (omega (arith, some))
