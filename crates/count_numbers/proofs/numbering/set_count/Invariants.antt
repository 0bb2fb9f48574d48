use Rattle.std.proofs.Common.{◌≡◌, ◌≤◌, ◌-◌, ◌^◌, drop}
use Rattle.count_numbers.specs.Runs.{together}
use Rattle.count_numbers.specs.Layout.{set_count}
use Rattle.count_numbers.proofs.numbering.set_count.Given as goal

abbrev pub invariant-loop-run : goal.invariant-loop-run
invariant-loop-run l = record {
  counted : together l.sets (set_count (drop l.run-index l.runs)) ≡ set_count l.runs;
  is : l.sets ≤ 2 ^ 64 - 1;
}
