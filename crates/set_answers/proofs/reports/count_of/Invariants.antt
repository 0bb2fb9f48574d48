use Rattle.std.proofs.Common.{◌≡◌, ◌+◌, ◌≤◌, length, drop}
use Rattle.set_answers.specs.Acknowledgments.{present}
use Rattle.set_answers.proofs.reports.count_of.Given as goal

-- those so far, and those left
abbrev pub invariant-loop-group : goal.invariant-loop-group
invariant-loop-group l = record {
  count : l.count + length (present (drop l.group-index l.groups)) ≡ length (present l.groups);
  bound : l.count ≤ l.group-index;
}
