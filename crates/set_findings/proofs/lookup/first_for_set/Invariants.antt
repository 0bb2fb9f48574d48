use Rattle.std.proofs.Common.{◌≡◌, drop}
use Rattle.std.specs.List.{find}
use Rattle.partner_setup.specs.Setup.{is_for_set}
use Rattle.partner_setup.specs.Names.{those_at}
use Rattle.set_findings.proofs.lookup.first_for_set.Given as goal

abbrev pub invariant-loop-place : goal.invariant-loop-place
invariant-loop-place l =
    find (is_for_set l.group l.version l.set) (those_at l.guides (drop l.place-index l.places))
    ≡ find (is_for_set l.group l.version l.set) (those_at l.guides l.places)
