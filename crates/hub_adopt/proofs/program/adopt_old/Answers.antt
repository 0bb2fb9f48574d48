use Rattle.std.proofs.lemmas.Result.{IfOk-weaker}
use Rattle.hub_adopt.proofs.program.adopt_old.Goals as goal

pub returns : goal.returns
returns g c =
    let adoption = c.adoption_of-adoption.result in
    IfOk-weaker c.adopt_on.result _ _
    (λ told done. record { adoption = adoption; adoption_is = c.adoption_of-adoption.ensures.asked; old = _; new = _; done = done })
    c.adopt_on.ensures.done
