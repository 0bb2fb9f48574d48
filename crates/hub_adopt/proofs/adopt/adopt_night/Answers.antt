use Rattle.std.proofs.Common.{inr}
use Rattle.std.proofs.lemmas.Result.{on_ok_weaker}
use Rattle.hub_adopt.specs.Again.{IsMadeAgain}
use Rattle.hub_adopt.proofs.Adopting.{made_next}
use Rattle.hub_adopt.proofs.adopt.adopt_night.Goals as goal

pub returns-in-Made-clause-adopted : goal.returns-in-Made-clause-adopted
returns-in-Made-clause-adopted g c =
    let made : IsMadeAgain c.args.adoption.now c.args.count c.args.mark.now c.in-Made.made =
    made_next c.args.adoption.now c.args.count c.args.mark.now c.in_ok-next_of.field-0 c.in-Made.made c.in-Made.is
    c.in_ok-next_of.ensures in
    on_ok_weaker c.keep_made.result
    (λ kept. inr (record { made = c.in-Made.made; made_is = made; kept = kept }))
    c.keep_made.ensures.kept

pub returns-in-Made-clause-stopped : goal.returns-in-Made-clause-stopped
returns-in-Made-clause-stopped g c =
    let made : IsMadeAgain c.args.adoption.now c.args.count c.args.mark.now c.in-Made.made =
    made_next c.args.adoption.now c.args.count c.args.mark.now c.in_ok-next_of.field-0 c.in-Made.made c.in-Made.is
    c.in_ok-next_of.ensures in
    inr (record { made = c.in-Made.made; made_is = made; left = c.keep_made.ensures.stopped })
