use Rattle.std.proofs.Common.{◌≡◌, ◌+◌, ◌*◌, ◌≤◌, drop, length}
use Rattle.ack_999.specs.Faults.{notes, notes_behind}
use Rattle.ack_999.proofs.faults.fault_segment_count.Given as goal

abbrev pub invariant-loop-i : goal.invariant-loop-i
invariant-loop-i l = record {
  counted : l.count + length (notes_behind l.before (drop l.i l.faults)) ≡ length (notes l.faults);
  few : l.count ≤ 2 * l.i;
}
