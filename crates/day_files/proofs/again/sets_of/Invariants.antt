use Rattle.std.proofs.Common.{◌≡◌, map, take}
use Rattle.day_files.specs.Again.{set_in}
use Rattle.day_files.specs.Members.{asked_again}
use Rattle.day_files.proofs.again.sets_of.Given as goal

abbrev pub invariant-loop-i : goal.invariant-loop-i
invariant-loop-i l = l.sets.items ≡ map set_in (asked_again (take l.i l.members))
