use Rattle.std.proofs.Common.{◌≡◌, ◌++◌}
use Rattle.night_batches.specs.ByPlace.{AreClosedFrom}
use Rattle.night_batches.proofs.closing.close_from.Given as goal

abbrev pub invariant-loop-sets : goal.invariant-loop-sets
invariant-loop-sets l =
    AreClosedFrom l.setup l.at l.files l.from l.yielded l.texts.items l.counters.items
    × (l.fn.boxes.items ≡ l.yielded ++ l.sets-iterator.rest.items)
