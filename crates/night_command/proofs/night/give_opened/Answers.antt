use Rattle.std.proofs.Common.{ℕ, List, Option, IsOkAnd, subst}
use Rattle.night_command.specs.Outcome.{IsGiven}
use Rattle.night_command.proofs.Opening.{of_opened}
use Rattle.night_command.proofs.night.give_opened.Goals as goal

pub returns-in-Ok-clause-given : goal.returns-in-Ok-clause-given
returns-in-Ok-clause-given g c clean =
    let gives : Option (List ℕ) → Type 0 = λ told. IsGiven told c.args.setup.now c.args.options.now.at c.give_night.result
    (g.B.Outbox.contents c.args.folder.now) (g.B.Outbox.contents c.give_night.new.outbox) (g.O.Write.contents c.args.out.now)
    (g.O.Write.contents c.give_night.new.out) in
    let given = of_opened g.F.Read.remaining c.into_answer.result _ _ _ gives c.in-Ok.ensures.source (c.give_night.ensures.given clean) in
    subst (λ answer. IsOkAnd answer (λ file. gives (g.F.Read.remaining file))) c.into_answer.ensures given
