use Rattle.std.proofs.Common.{take}
use Rattle.archived_nights.specs.Archive.{AreDelivered, newest_first}
use Rattle.archived_nights.proofs.archive.sets_of.Given as goal

abbrev pub invariant-loop-i : goal.invariant-loop-i
invariant-loop-i l = AreDelivered (newest_first (take l.i l.nights)) l.sets.items
