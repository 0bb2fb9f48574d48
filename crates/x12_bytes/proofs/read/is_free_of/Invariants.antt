use Rattle.std.proofs.Common.{◌≡◌, take}
use Rattle.std.specs.List.{list_all}
use Rattle.x12_bytes.specs.FieldRow.{is_free}
use Rattle.x12_bytes.proofs.read.is_free_of.Given as goal

abbrev pub invariant-loop-byte : goal.invariant-loop-byte
invariant-loop-byte l = l.free ≡ list_all (is_free l.element l.terminator) (take l.byte-index l.field)
