use Rattle.std.proofs.Common.{◌≡◌, ◌++◌, take}
use Rattle.guide_widening.proofs.keys.append_numbers.Given as goal

abbrev pub invariant-loop-i : goal.invariant-loop-i
invariant-loop-i l = l.key.items ≡ l.initial.key.items ++ take l.i l.numbers
