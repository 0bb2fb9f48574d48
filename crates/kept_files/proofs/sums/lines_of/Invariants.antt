use Rattle.std.proofs.Common.{◌≡◌, take}
use Rattle.std.specs.List.{flat_map}
use Rattle.night_record.specs.declared.record.SummedFile.{SummedFile}
use Rattle.kept_files.specs.Sums.{line_of}
use Rattle.kept_files.proofs.sums.lines_of.Given as goal

abbrev pub invariant-loop-i : goal.invariant-loop-i
invariant-loop-i l = l.text.items ≡ flat_map (λ (sum : SummedFile). line_of sum.name sum.sum) (take l.i l.list)
