use Rattle.std.proofs.Common.{◌≡◌, ◌+◌, ◌≤◌, ◌++◌, length, map}
use Rattle.x12_segs.specs.Words.{elements_of}
use Rattle.ack_read.specs.Told.{told_behind, told_in}
use Rattle.ack_read.proofs.read.read_by.Given as goal

abbrev pub invariant-loop-segment : goal.invariant-loop-segment
invariant-loop-segment l =
    record {
      told : l.found.items ++ told_behind l.delims l.standing (map elements_of l.segment-iterator) ≡ told_in l.delims l.text;
      count : l.standing.interchange + length l.segment-iterator ≤ length l.text;
    }
