use Rattle.std.proofs.Common.{◌≡◌, ◌++◌, map, drop}
use Rattle.partner_setup.specs.Names.{those_at}
use Rattle.partner_setup.specs.SetupFaults.{purpose_key, key_of_texts}
use Rattle.partner_setup.specs.declared.told.Told.{Told}
use Rattle.partner_setup.proofs.judge.purposes_at.Given as goal

abbrev pub invariant-loop-place : goal.invariant-loop-place
invariant-loop-place l =
    map (λ (t : Told). key_of_texts t.first.now t.second.now t.third.now) l.told.items
    ++ map purpose_key (those_at l.guides (drop l.place-index l.places)) ≡ map purpose_key (those_at l.guides l.places)
