use Rattle.std.proofs.Common.{◌≡◌, take}
use Rattle.guide_fast.specs.IdNumber.{begin_numbers}
use Rattle.guide_fast.proofs.id_number.begin_numbers.Given as goal

-- the numbers of the nodes so far
abbrev pub invariant-loop-k : goal.invariant-loop-k
invariant-loop-k l = l.numbers.items ≡ begin_numbers (take l.k l.nodes)
