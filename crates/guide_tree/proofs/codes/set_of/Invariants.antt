use Rattle.std.proofs.Common.{take}
use Rattle.guide_tree.specs.Codes.{Knows}
use Rattle.guide_tree.proofs.codes.set_of.Given as goal

-- the texts so far
abbrev pub invariant-loop-i : goal.invariant-loop-i
invariant-loop-i l = Knows l.known (take l.i l.texts)
