use Rattle.std.proofs.Common.{take}
use Rattle.elem_rules.specs.Flat.{AreFlatConditions}
use Rattle.elem_rules.proofs.flat_slot.flat_conditions_of.Given as goal

abbrev pub invariant-loop-k : goal.invariant-loop-k
invariant-loop-k l = AreFlatConditions l.flat.items (take l.k l.conditions)
