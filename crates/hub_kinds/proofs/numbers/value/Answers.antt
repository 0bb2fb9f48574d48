use Rattle.std.proofs.Common.{arith}
use Rattle.hub_kinds.proofs.Powers.{below_last_digit}
use Rattle.hub_kinds.proofs.numbers.value.Goals as goal

pub overflow_mul-number : goal.overflow_mul-number
overflow_mul-number c = omega (arith, below_last_digit c.loop-digit.digit-index (omega arith))

pub overflow_add-number : goal.overflow_add-number
overflow_add-number c = omega (arith, below_last_digit c.loop-digit.digit-index (omega arith))
