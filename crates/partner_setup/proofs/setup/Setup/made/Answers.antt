use Rattle.partner_setup.proofs.Sounding.{sound}
use Rattle.partner_setup.proofs.setup.Setup.made.Goals as goal

pub of-requires-clause-sound : goal.of-requires-clause-sound
of-requires-clause-sound c =
    rw (c.in_ok-routes.ensures, c.in_ok-partners.ensures, c.as_slice.ensures, c.as_slice-2.ensures.value)
    (sound c.args.rows c.args.counters.now c.args.guides.items c.requires)
