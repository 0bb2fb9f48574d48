use Rattle.std.proofs.Common.{take}
use Rattle.archived_nights.specs.Archive.{AreLeft, newest_first}
use Rattle.archived_nights.proofs.left.next_after.Given as goal

abbrev pub invariant-loop-i : goal.invariant-loop-i
invariant-loop-i l = AreLeft (newest_first (take l.i l.nights)) l.list.items
