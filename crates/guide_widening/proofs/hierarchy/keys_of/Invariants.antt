use Rattle.std.proofs.Common.{map, take}
use Rattle.guide_tree.specs.Codes.{Knows}
use Rattle.guide_widening.specs.Keys.{pair_key}
use Rattle.guide_widening.proofs.hierarchy.keys_of.Given as goal

abbrev pub invariant-loop-i : goal.invariant-loop-i
invariant-loop-i l = Knows l.known (map pair_key (take l.i l.pairs))
