use Rattle.std.proofs.Common.{length, ◌-◌, ◌≡◌}
use Rattle.answered_sets.specs.Placed.{sets_left}
use Rattle.answered_sets.proofs.sets.PlacedSetsIterator.next.Given as goal

abbrev pub invariant-loop-self : goal.invariant-loop-self
invariant-loop-self l =
    sets_left l.self-inside.interchanges.now l.self-inside.at l.self-inside.group l.self-inside.set
    ≡ sets_left l.initial.self-inside.interchanges.now l.initial.self-inside.at l.initial.self-inside.group l.initial.self-inside.set

abbrev pub decreases-loop-self : goal.decreases-loop-self
decreases-loop-self l = length l.self-inside.interchanges.now - l.self-inside.at
