use Rattle.std.proofs.Common.{◌≡◌, take}
use Rattle.day_files.specs.Lines.{lines_of}
use Rattle.day_files.specs.Members.{input_of}
use Rattle.day_files.proofs.joined.join.Given as goal

abbrev pub invariant-loop-i : goal.invariant-loop-i
invariant-loop-i l = record {
  input : l.joined.input.items ≡ input_of (take l.i l.members);
  lines : l.joined.lines.items ≡ lines_of 1 0 (take l.i l.members);
}
