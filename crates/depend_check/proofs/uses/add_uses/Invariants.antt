use Rattle.std.proofs.Common.{◌≡◌, ◌++◌, take}
use Rattle.std.specs.List.{flat_map}
use Rattle.depend_check.specs.Found.{faults_of_use}
use Rattle.loop_match.specs.Viewed.{placed_views}
use Rattle.depend_check.proofs.uses.add_uses.Given as goal

-- what the segments so far break
abbrev pub invariant-loop-i : goal.invariant-loop-i
invariant-loop-i l =
    l.faults ≡ l.fn.faults
    ++ flat_map (faults_of_use l.delims l.dependency.target l.dependency.kind l.dependency.element) (placed_views (take l.i l.placed))
