use Rattle.std.proofs.Common.{◌-◌, length}
use Rattle.x12_segs.proofs.SegLemmas.{IsLeftFrom}
use Rattle.x12_segs.proofs.scan.next_part.Given as goal

abbrev pub invariant-loop-len : goal.invariant-loop-len
invariant-loop-len l = IsLeftFrom l.text l.terminator l.from l.at

abbrev pub decreases-loop-len : goal.decreases-loop-len
decreases-loop-len l = length l.text - l.at
