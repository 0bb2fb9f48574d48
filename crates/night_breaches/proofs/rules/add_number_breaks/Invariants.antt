use Rattle.std.proofs.Common.{◌≡◌, ◌++◌, take}
use Rattle.night_breaches.specs.Breaches.{number_breaks}
use Rattle.night_breaches.specs.Known.{row_in}
use Rattle.night_breaches.proofs.rules.add_number_breaks.Given as goal

abbrev pub invariant-loop-i : goal.invariant-loop-i
invariant-loop-i l = l.found.items ≡ l.fn.found.items ++ number_breaks (row_in l.known) l.night (take l.i l.rows)
