use Rattle.std.proofs.Common.{◌≡◌, drop, map}
use Rattle.night_record.specs.Values.{rise_after}
use Rattle.night_record.specs.declared.record.SummedFile.{SummedFile}
use Rattle.night_record.proofs.files.rise_after.Given as goal

abbrev pub invariant-loop-i : goal.invariant-loop-i
invariant-loop-i l =
    rise_after l.last (map (λ (file : SummedFile). file.name) (drop l.i l.files))
    ≡ rise_after l.fn.first (map (λ (file : SummedFile). file.name) l.files)
