use Rattle.std.proofs.Common.{◌≡◌, take}
use Rattle.hub_adopt.proofs.given.first_other.Given as goal

abbrev pub invariant-loop-i : goal.invariant-loop-i
invariant-loop-i l = take l.i l.these ≡ take l.i l.those
