use Rattle.std.proofs.Common.{◌≡◌, map, take}
use Rattle.csv.specs.Records.{fields_of}
use Rattle.sets_again.specs.Rows.{is_wanted}
use Rattle.sets_again.proofs.again.chosen_of.Given as goal

abbrev pub invariant-loop-row : goal.invariant-loop-row
invariant-loop-row l = l.chosen.items ≡ map (is_wanted l.wanted) (map (λ r. fields_of r.now) (take l.row-index l.rows))
