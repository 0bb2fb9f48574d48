use Rattle.std.proofs.Common.{◌≡◌, ◌++◌, map, take}
use Rattle.night_record.specs.Lines.{lines_text}
use Rattle.night_record.specs.Record.{file_line}
use Rattle.night_record.proofs.write.append_each_file.Given as goal

abbrev pub invariant-loop-file : goal.invariant-loop-file
invariant-loop-file l = l.out.items ≡ l.fn.out.items ++ lines_text (map file_line (take l.file-index l.files))
