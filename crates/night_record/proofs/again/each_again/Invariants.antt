use Rattle.std.proofs.Common.{◌≡◌, map, take}
use Rattle.csv.specs.Records.{fields_of}
use Rattle.night_record.specs.Again.{again_in}
use Rattle.night_record.proofs.again.each_again.Given as goal

abbrev pub invariant-loop-i : goal.invariant-loop-i
invariant-loop-i l = l.list.items ≡ map again_in (map fields_of (take l.i l.rows))
