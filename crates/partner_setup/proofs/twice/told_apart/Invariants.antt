use Rattle.std.proofs.Common.{◌≡◌, map, take}
use Rattle.partner_setup.specs.SetupFaults.{key_of_texts}
use Rattle.partner_setup.specs.declared.told.Told.{Told}
use Rattle.partner_setup.proofs.twice.told_apart.Given as goal

abbrev pub invariant-loop-i : goal.invariant-loop-i
invariant-loop-i g l = map (λ (t : Told). key_of_texts t.first.now t.second.now t.third.now) l.told.items ≡ map g.K.Tells.tells
    (take l.i l.rows)
