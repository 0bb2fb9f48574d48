use Rattle.std.proofs.lemmas.Result.{on_ok_weaker}
use Rattle.night_page.proofs.Growing.{two}
use Rattle.night_page.proofs.partners.append_link.Goals as goal

pub returns : goal.returns
returns c = on_ok_weaker c.append_between.result (λ adds. two _ _ _ _ _ c.in_ok-append_tagged.ensures adds) c.append_between.ensures
