use Rattle.std.proofs.Common.{◌∙◌}
use Rattle.partner_setup.specs.SetupFaults.{key_of_texts}
use Rattle.partner_setup.specs.declared.told.Told.{Told}
use Rattle.partner_setup.proofs.Telling.{twice_alike}
use Rattle.partner_setup.proofs.twice.given_twice.Goals as goal

pub returns : goal.returns
returns g c =
    c.has_twice.ensures
    ∙ twice_alike (λ (t : Told). key_of_texts t.first.now t.second.now t.third.now) g.K.Tells.tells c.in_ok-told_apart.field-0.items
    c.args.rows.now c.in_ok-told_apart.ensures
