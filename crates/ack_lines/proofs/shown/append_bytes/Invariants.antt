use Rattle.std.proofs.Common.{◌≡◌, ◌++◌, take, map}
use Rattle.ack_lines.specs.Shown.{shown_byte}
use Rattle.ack_lines.proofs.shown.append_bytes.Given as goal

abbrev pub invariant-loop-byte : goal.invariant-loop-byte
invariant-loop-byte l = l.out.items ≡ l.initial.out.items ++ map shown_byte (take l.byte-index l.bytes)
