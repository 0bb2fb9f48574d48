use Rattle.std.proofs.Common.{◌≡◌, ◌++◌, take}
use Rattle.night_breaches.specs.Breaches.{wrong_files}
use Rattle.night_breaches.proofs.rules.add_wrong_files.Given as goal

abbrev pub invariant-loop-i : goal.invariant-loop-i
invariant-loop-i l = l.found.items ≡ l.fn.found.items ++ wrong_files l.night (take l.i l.files)
