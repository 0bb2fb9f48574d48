use Rattle.hub_run.proofs.plain.are_sound.Goals as goal

pub returns-clause-setup : goal.returns-clause-setup
returns-clause-setup c =
    record {
      hub = c.hub-hub.ensures.ids;
      partners = c.partners-partners.ensures.sound;
      routes = c.routes-routes.ensures.within;
      apart = c.routes-routes.ensures.apart;
    }
