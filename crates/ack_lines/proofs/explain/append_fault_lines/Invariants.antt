use Rattle.std.proofs.Common.{◌≡◌, ◌++◌, take}
use Rattle.std.specs.List.{flat_map}
use Rattle.ack_lines.specs.Lines.{faults_said}
use Rattle.ack_lines.proofs.explain.append_fault_lines.Given as goal

abbrev pub invariant-loop-one : goal.invariant-loop-one
invariant-loop-one l =
    l.out.items ≡ l.initial.out.items ++ flat_map (faults_said l.names) (take l.one-index l.found)
