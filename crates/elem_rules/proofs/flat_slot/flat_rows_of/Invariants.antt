use Rattle.std.proofs.Common.{◌≡◌, length}
use Rattle.elem_rules.specs.Flat.{ArePairs}
use Rattle.elem_rules.proofs.FlatSlots.{IsStable}
use Rattle.elem_rules.proofs.flat_slot.flat_rows_of.Given as goal

abbrev pub invariant-loop-k : goal.invariant-loop-k
invariant-loop-k l = record {
  many : length l.flat.items ≡ l.k;
  each : ArePairs (IsStable l.numbers.items) l.flat.items l.rows;
}
