use Rattle.std.proofs.Common.{◌≡◌, take}
use Rattle.std.specs.List.{count_by}
use Rattle.csv.specs.Records.{fields_of}
use Rattle.night_page.specs.Page.{is_held}
use Rattle.night_page.proofs.sets.held.Given as goal

abbrev pub invariant-loop-row : goal.invariant-loop-row
invariant-loop-row l = l.count ≡ count_by (λ row. is_held (fields_of row)) (take l.row-index l.rows)
