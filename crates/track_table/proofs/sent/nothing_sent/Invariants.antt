use Rattle.std.proofs.Common.{◌≡◌, ℕ, length}
use Rattle.std.specs.Prelude.{Some, slice_get}
use Rattle.track_table.specs.declared.sent.Sent.{Sent}
use Rattle.track_table.proofs.sent.nothing_sent.Given as goal

abbrev pub invariant-loop : goal.invariant-loop
invariant-loop l = record {
  count : length l.sent.items ≡ l.counter;
  each : (q : ℕ) (s : Sent) → slice_get l.sent.items q ≡ Some s → (s.acknowledgments ≡ 0) × (s.groups ≡ 0);
}
