use Rattle.std.proofs.Common.{◌≡◌, drop}
use Rattle.track_table.specs.Hindrance.{byte_in_the_way}
use Rattle.track_table.proofs.hindrance.byte_in_the_way.Given as goal

abbrev pub invariant-loop-byte : goal.invariant-loop-byte
invariant-loop-byte l = byte_in_the_way l.from l.to (drop l.byte-index l.text) ≡ byte_in_the_way l.from l.to l.text
