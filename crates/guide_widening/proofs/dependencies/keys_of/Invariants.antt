use Rattle.std.proofs.Common.{take}
use Rattle.std.specs.List.{flat_map}
use Rattle.guide_tree.specs.Codes.{Knows}
use Rattle.guide_widening.specs.Keys.{code_keys}
use Rattle.guide_widening.proofs.dependencies.keys_of.Given as goal

abbrev pub invariant-loop-i : goal.invariant-loop-i
invariant-loop-i l = Knows l.known (flat_map code_keys (take l.i l.depends))
