use Rattle.std.proofs.Common.{◌≡◌, length}
use Rattle.elem_rules.specs.Flat.{ArePairs}
use Rattle.elem_rules.specs.NodeSlots.{IsFlatNode, lent_slots}
use Rattle.elem_rules.proofs.slot_tables.flat_nodes_of.Given as goal

abbrev pub invariant-loop-k : goal.invariant-loop-k
invariant-loop-k l = record {
  many : length l.flats.items ≡ l.k;
  each : ArePairs IsFlatNode l.flats.items (lent_slots l.slots);
}
