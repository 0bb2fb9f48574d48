use Rattle.std.proofs.Common.{◌≡◌, take}
use Rattle.archived_nights.specs.Archive.{rows_of}
use Rattle.archived_nights.proofs.read.rows_of.Given as goal

abbrev pub invariant-loop-i : goal.invariant-loop-i
invariant-loop-i l = l.rows.items ≡ rows_of (take l.i l.list)
