use Rattle.std.proofs.Common.{◌≡◌, ◌↔◌, [], List, subst, sym}
use Rattle.night_breaches.specs.Breaches.{last_name}
use Rattle.night_breaches.specs.Sound.{AreSound}
use Rattle.night_breaches.specs.declared.breach.Breach.{Breach}
use Rattle.night_review.proofs.GoingOn.{all_none}
use Rattle.night_review.proofs.judge.all_breaches.Goals as goal

pub returns-clause-none : goal.returns-clause-none
returns-clause-none c =
    let sound : Type 0 = AreSound c.args.limit.now [] c.args.nights.now in
    subst (λ (l : List Breach). (l ≡ []) ↔ (sound × (last_name c.args.nights.now ≡ c.args.named.now))) (sym c.in_ok-last_breach.ensures)
    (all_none c.args.named.now c.args.nights.now c.in_ok-found.found.items sound c.in_ok-found.ensures.none)
