use Rattle.std.proofs.Common.{◌≡◌, drop}
use Rattle.guide_widening.specs.NodeDifferences.{pick_at}
use Rattle.guide_widening.proofs.picks.value_at.Given as goal

abbrev pub invariant-loop-i : goal.invariant-loop-i
invariant-loop-i l = pick_at (drop l.i l.picks) l.position ≡ pick_at l.picks l.position
