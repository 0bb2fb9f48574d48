use Rattle.std.proofs.Common.{◌≡◌, ◌++◌, length}
use Rattle.ack_lines.specs.Lines.{note_lines}
use Rattle.ack_lines.proofs.notes.append_note_lines.Given as goal

abbrev pub invariant-loop-left : goal.invariant-loop-left
invariant-loop-left l = l.out.items ++ note_lines l.names l.head l.left ≡ l.initial.out.items ++ note_lines l.names l.head l.notes

abbrev pub decreases-loop-left : goal.decreases-loop-left
decreases-loop-left l = length l.left
