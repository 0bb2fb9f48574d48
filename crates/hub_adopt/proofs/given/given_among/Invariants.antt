use Rattle.std.proofs.Common.{◌≡◌, take}
use Rattle.std.specs.Prelude.{filter}
use Rattle.hub_adopt.specs.Given.{is_given}
use Rattle.hub_adopt.proofs.given.given_among.Given as goal

abbrev pub invariant-loop-i : goal.invariant-loop-i
invariant-loop-i l = l.found.items ≡ filter is_given (take l.i l.files)
