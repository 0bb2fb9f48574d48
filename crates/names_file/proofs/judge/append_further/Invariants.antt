use Rattle.std.proofs.Common.{◌≡◌, ◌++◌, drop}
use Rattle.names_file.specs.Refused.{further_tables}
use Rattle.names_file.proofs.judge.append_further.Given as goal

abbrev pub invariant-loop-i : goal.invariant-loop-i
invariant-loop-i l = l.out.items ++ further_tables (drop l.i l.keys) ≡ l.initial.out.items ++ further_tables l.keys
