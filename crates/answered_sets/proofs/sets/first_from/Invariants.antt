use Rattle.std.proofs.Common.{length, ◌-◌, ◌≡◌}
use Rattle.answered_sets.specs.Placed.{sets_left_in}
use Rattle.answered_sets.proofs.sets.first_from.Given as goal

abbrev pub invariant-loop-place : goal.invariant-loop-place
invariant-loop-place l = sets_left_in l.judged l.group l.set ≡ sets_left_in l.judged l.place.group l.place.set

abbrev pub decreases-loop-place : goal.decreases-loop-place
decreases-loop-place l = length l.judged.interchange.content.groups - l.place.group
