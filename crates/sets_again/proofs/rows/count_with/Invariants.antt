use Rattle.std.proofs.Common.{◌≡◌, ◌+◌, ◌-◌, ◌≤◌, drop, length}
use Rattle.std.specs.List.{prefix_len}
use Rattle.std.specs.Str.{bytes_eq}
use Rattle.csv.specs.Records.{fields_of}
use Rattle.sets_again.specs.Rows.{offset}
use Rattle.sets_again.proofs.rows.count_with.Given as goal

abbrev pub invariant-loop-count : goal.invariant-loop-count
invariant-loop-count l = record {
  within : l.count ≤ length l.all;
  counted : prefix_len (λ row. bytes_eq (offset (fields_of row)) l.offset) l.all
      ≡ l.count + prefix_len (λ row. bytes_eq (offset (fields_of row)) l.offset) (drop l.count l.all);
}

abbrev pub decreases-loop-count : goal.decreases-loop-count
decreases-loop-count l = length l.all - l.count
