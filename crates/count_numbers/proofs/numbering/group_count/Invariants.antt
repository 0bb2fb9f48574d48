use Rattle.std.proofs.Common.{◌≡◌, ◌≤◌, ◌-◌, ◌^◌, drop}
use Rattle.count_numbers.specs.Runs.{together}
use Rattle.count_numbers.specs.Layout.{group_count, group_count_behind}
use Rattle.count_numbers.proofs.numbering.group_count.Given as goal

abbrev pub invariant-loop-run : goal.invariant-loop-run
invariant-loop-run l = record {
  counted : together l.groups (group_count_behind l.cap l.before (drop l.run-index l.runs)) ≡ group_count l.cap l.runs;
  is : l.groups ≤ 2 ^ 64 - 1;
}
