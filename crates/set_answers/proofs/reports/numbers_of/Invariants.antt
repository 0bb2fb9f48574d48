use Rattle.std.proofs.Common.{◌≡◌, ◌+◌, ◌≤◌, ◌++◌, drop}
use Rattle.set_answers.specs.Shares.{numbers_from}
use Rattle.set_answers.proofs.reports.numbers_of.Given as goal

-- those so far, and those left
abbrev pub invariant-loop-group : goal.invariant-loop-group
invariant-loop-group l = record {
  numbers : l.numbers.items ++ numbers_from (l.before + 1) (drop l.group-index l.groups) ≡ numbers_from 1 l.groups;
  bound : l.before ≤ l.group-index;
}
