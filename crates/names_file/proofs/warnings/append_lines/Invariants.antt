use Rattle.std.proofs.Common.{◌≡◌, ◌++◌, drop}
use Rattle.std.specs.List.{flat_map}
use Rattle.names_file.specs.Warnings.{line_unless_known}
use Rattle.names_file.proofs.warnings.append_lines.Given as goal

abbrev pub invariant-loop-i : goal.invariant-loop-i
invariant-loop-i l =
    l.out.items ++ flat_map (line_unless_known l.known l.path) (drop l.i l.subjects)
    ≡ l.initial.out.items ++ flat_map (line_unless_known l.known l.path) l.subjects
