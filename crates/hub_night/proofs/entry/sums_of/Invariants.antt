use Rattle.std.proofs.Common.{◌≡◌, map, take}
use Rattle.hub_night.specs.Made.{named_sum}
use Rattle.hub_night.proofs.entry.sums_of.Given as goal

abbrev pub invariant-loop-i : goal.invariant-loop-i
invariant-loop-i l = l.sums.items ≡ map named_sum (take l.i l.files)
