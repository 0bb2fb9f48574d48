use Rattle.std.proofs.Common.{◌≡◌}
use Rattle.elem_rules.specs.Clean.{bits_to}
use Rattle.elem_rules.proofs.FlatSlots.{is_needed}
use Rattle.elem_rules.proofs.flat_slot.must_of.Given as goal

abbrev pub invariant-loop-k : goal.invariant-loop-k
invariant-loop-k l = l.must ≡ bits_to (is_needed l.rows) l.k
