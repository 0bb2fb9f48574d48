use Rattle.std.proofs.Common.{◌≡◌}
use Rattle.track_table.specs.Hindrance.{byte_in_parts}
use Rattle.track_table.proofs.hindrance.byte_in_parts.Given as goal

abbrev pub invariant-loop-part : goal.invariant-loop-part
invariant-loop-part l = byte_in_parts l.from l.to l.part-iterator ≡ byte_in_parts l.from l.to l.fn.parts
