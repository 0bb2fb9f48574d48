use Rattle.std.proofs.Common.{◌≡◌, ◌++◌, drop}
use Rattle.file_names.specs.Shown.{shown_after}
use Rattle.file_names.proofs.shown.append_shown.Given as goal

abbrev pub invariant-loop-i : goal.invariant-loop-i
invariant-loop-i l = l.out.items ++ shown_after l.before (drop l.i l.name) ≡ l.initial.out.items ++ shown_after 0 l.name
