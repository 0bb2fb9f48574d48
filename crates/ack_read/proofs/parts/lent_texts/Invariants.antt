use Rattle.std.proofs.Common.{◌≡◌, ◌++◌}
use Rattle.std.specs.Prelude.{filter}
use Rattle.ack_read.specs.Told.{has_bytes}
use Rattle.ack_read.proofs.parts.lent_texts.Given as goal

abbrev pub invariant-loop-part : goal.invariant-loop-part
invariant-loop-part l = l.texts.items ++ filter has_bytes l.part-iterator ≡ filter has_bytes l.fn.parts
