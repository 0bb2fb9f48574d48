use Rattle.std.proofs.Common.{take}
use Rattle.std.specs.List.{AllZip}
use Rattle.record_review.specs.Found.{IsSumOf}
use Rattle.record_review.proofs.found.sums_at.Given as goal

abbrev pub invariant-loop-i : goal.invariant-loop-i
invariant-loop-i g l = AllZip (IsSumOf l.night) (take l.i l.names) l.sums.items
