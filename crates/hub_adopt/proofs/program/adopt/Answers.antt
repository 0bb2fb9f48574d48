use Rattle.hub_adopt.proofs.program.adopt.Goals as goal

pub returns : goal.returns
returns g c = record { intact = c.in_ok-see_intact.ensures.intact; made = c.in_ok-told.ensures }
