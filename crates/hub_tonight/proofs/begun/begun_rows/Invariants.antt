use Rattle.std.proofs.Common.{◌≡◌, map, take}
use Rattle.hub_tonight.specs.Numbers.{numbers_in, row_by}
use Rattle.hub_tonight.proofs.begun.begun_rows.Given as goal

abbrev pub invariant-loop-i : goal.invariant-loop-i
invariant-loop-i l = l.list.items ≡ map (row_by (numbers_in l.left) (numbers_in l.first)) (take l.i l.partners)
