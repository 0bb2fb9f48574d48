use Rattle.std.proofs.Common.{◌≡◌, ◌≤◌, ◌+◌, drop}
use Rattle.diff_lines.specs.Lines.{count_of}
use Rattle.diff_lines.proofs.totals.count_of.Given as goal

abbrev pub invariant-loop-i : goal.invariant-loop-i
invariant-loop-i l = record {
  counted : l.count + count_of l.change (drop l.i l.found) ≡ count_of l.change l.found;
  few : l.count ≤ l.i;
}
