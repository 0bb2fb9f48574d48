use Rattle.std.proofs.Common.{ℕ, List, ◌++◌, map, take}
use Rattle.guide_tree.specs.Codes.{Knows}
use Rattle.guide_widening.specs.Keys.{dependency_key}
use Rattle.guide_widening.proofs.dependencies.add_keys.Given as goal

abbrev pub invariant-loop-i : goal.invariant-loop-i
invariant-loop-i l =
    (all : List (List ℕ)) → Knows l.initial.known all → Knows l.known (all ++ map (dependency_key l.depend) (take l.i l.depend.codes))
