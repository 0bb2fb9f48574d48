use Rattle.std.proofs.Common.{◌≡◌, ◌++◌, length}
use Rattle.ack_lines.specs.Lines.{lines_behind, none_asked}
use Rattle.ack_lines.proofs.explain.append_each.Given as goal

abbrev pub invariant-loop-left : goal.invariant-loop-left
invariant-loop-left l =
    l.out.items ++ lines_behind l.names (record { interchange = l.asked.0; control = l.asked.1 }) l.left
    ≡ l.initial.out.items ++ lines_behind l.names none_asked l.all

abbrev pub decreases-loop-left : goal.decreases-loop-left
decreases-loop-left l = length l.left
