use Rattle.std.proofs.Common.{◌≡◌, ◌++◌, map, take}
use Rattle.hub_night.specs.Made.{guide_file}
use Rattle.hub_night.proofs.made.push_guides.Given as goal

abbrev pub invariant-loop-i : goal.invariant-loop-i
invariant-loop-i l = l.files.items ≡ l.fn.files.items ++ map guide_file (take l.i l.guides)
