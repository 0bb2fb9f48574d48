use Rattle.std.proofs.Common.{◌≡◌, ◌++◌, drop}
use Rattle.file_names.specs.Given.{marked_bytes}
use Rattle.file_names.proofs.given.marked.Given as goal

abbrev pub invariant-loop-i : goal.invariant-loop-i
invariant-loop-i l = l.text.items ++ marked_bytes (drop l.i l.bytes) ≡ marked_bytes l.bytes
