use Rattle.std.proofs.Common.{◌≡◌, ◌++◌, drop}
use Rattle.hub_tonight.specs.Files.{next_rows}
use Rattle.hub_tonight.proofs.given.next_rows.Given as goal

abbrev pub invariant-loop-i : goal.invariant-loop-i
invariant-loop-i l = l.list.items ++ next_rows (drop l.i l.partners) (drop l.i l.next) ≡ next_rows l.partners l.next
