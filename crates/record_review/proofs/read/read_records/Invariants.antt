use Rattle.std.proofs.Common.{map, take}
use Rattle.std.specs.List.{AllZip}
use Rattle.record_review.specs.Records.{IsRecordRead}
use Rattle.record_review.proofs.read.read_records.Given as goal

abbrev pub invariant-loop-i : goal.invariant-loop-i
invariant-loop-i g l = AllZip (IsRecordRead l.nights) (map (λ n. n.now) (take l.i l.order)) l.reads.items
