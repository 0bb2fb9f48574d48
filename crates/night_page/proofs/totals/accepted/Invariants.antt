use Rattle.std.proofs.Common.{◌≡◌, take}
use Rattle.std.specs.List.{count_by}
use Rattle.csv.specs.Records.{fields_of}
use Rattle.night_page.specs.Totals.{is_accepted}
use Rattle.night_page.proofs.totals.accepted.Given as goal

abbrev pub invariant-loop-row : goal.invariant-loop-row
invariant-loop-row l = l.count ≡ count_by (λ row. is_accepted (fields_of row.now)) (take l.row-index l.firsts)
