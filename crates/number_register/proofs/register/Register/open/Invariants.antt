use Rattle.std.specs.Prelude.{◌≡◌, ◌+◌, sum, vec_len}
use Rattle.number_register.proofs.register.Register.open.Given as goal

abbrev pub invariant-loop-share : goal.invariant-loop-share
invariant-loop-share g l = (l.all.parts + vec_len l.shares ≡ 65) × (l.all.amount + sum l.shares.items ≡ sum l.initial.shares.items)

abbrev pub decreases-loop-share : goal.decreases-loop-share
decreases-loop-share g l = goal.left-loop-share g l
