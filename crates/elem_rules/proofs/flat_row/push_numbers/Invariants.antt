use Rattle.std.proofs.Common.{◌≡◌, ◌++◌, map, take}
use Rattle.elem_rules.specs.Flat.{code_number}
use Rattle.elem_rules.proofs.flat_row.push_numbers.Given as goal

abbrev pub invariant-loop-k : goal.invariant-loop-k
invariant-loop-k l = l.numbers.items ≡ l.initial.numbers.items ++ map code_number (take l.k l.codes)
