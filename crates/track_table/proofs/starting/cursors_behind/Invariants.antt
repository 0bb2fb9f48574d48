use Rattle.std.proofs.Common.{take}
use Rattle.track_table.specs.Walking.{AreFirst}
use Rattle.track_table.proofs.starting.cursors_behind.Given as goal

abbrev pub invariant-loop-place : goal.invariant-loop-place
invariant-loop-place l = AreFirst (take l.place l.partners) l.sent l.cursors.items
