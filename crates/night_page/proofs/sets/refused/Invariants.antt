use Rattle.std.proofs.Common.{◌≡◌, take}
use Rattle.std.specs.List.{count_by}
use Rattle.csv.specs.Records.{fields_of}
use Rattle.night_page.specs.Rows.{is_refused}
use Rattle.night_page.proofs.sets.refused.Given as goal

abbrev pub invariant-loop-row : goal.invariant-loop-row
invariant-loop-row l = l.count ≡ count_by (λ row. is_refused (fields_of row)) (take l.row-index l.rows)
