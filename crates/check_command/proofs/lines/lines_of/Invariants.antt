use Rattle.std.proofs.Common.{◌≡◌, ◌++◌, drop}
use Rattle.check_command.specs.Lines.{lines_of}
use Rattle.check_command.proofs.lines.lines_of.Given as goal

abbrev pub invariant-loop-file : goal.invariant-loop-file
invariant-loop-file l = l.text.items ++ lines_of (drop l.file-index l.files) ≡ lines_of l.files
