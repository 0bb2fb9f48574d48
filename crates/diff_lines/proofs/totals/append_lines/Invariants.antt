use Rattle.std.proofs.Common.{◌≡◌, ◌++◌, drop}
use Rattle.std.specs.List.{flat_map}
use Rattle.diff_lines.specs.Lines.{difference_line}
use Rattle.diff_lines.proofs.totals.append_lines.Given as goal

abbrev pub invariant-loop-i : goal.invariant-loop-i
invariant-loop-i l =
    l.out.items ++ flat_map (difference_line l.old l.new) (drop l.i l.found)
    ≡ l.initial.out.items ++ flat_map (difference_line l.old l.new) l.found
