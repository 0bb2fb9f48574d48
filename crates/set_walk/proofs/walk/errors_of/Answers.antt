use Rattle.std.proofs.Common.{◌≡◌, ap, length, arith}
use Rattle.std.proofs.lemmas.Bool.{OnTrue_at}
use Rattle.set_walk.proofs.walk.errors_of.Goals as goal

pub returns-then-faultless : goal.returns-then-faultless
returns-then-faultless c f = (
  λ h. let none : length c.new.result.items ≡ 0 = ap length c.new.ensures.items in let l = h.1 in absurd (omega (arith, none, l)),
  λ w. absurd (OnTrue_at c.if-faultless.true c.requires.faultless f w),
)
