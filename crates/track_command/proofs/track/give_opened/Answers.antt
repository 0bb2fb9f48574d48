use Rattle.std.proofs.Common.{ℕ, List, Option, IsOkAnd, subst}
use Rattle.night_command.proofs.ForAbove.{of_opened}
use Rattle.track_command.specs.Outcome.{IsGiven}
use Rattle.track_command.proofs.Given.{given_as}
use Rattle.track_command.proofs.track.give_opened.Goals as goal

pub returns-in-Ok-clause-given : goal.returns-in-Ok-clause-given
returns-in-Ok-clause-given g c clean =
    let gives : Option (List ℕ) → Type 0 = λ told. IsGiven told c.args.setup.now c.args.options.now.documents.items
    c.args.options.now.output.now c.give_track.result (g.B.Outbox.contents c.args.places.now)
    (g.B.Outbox.contents c.give_track.new.outbox) in
    let given = of_opened g.F.Read.remaining c.into_answer.result _ _ _ gives c.in-Ok.ensures.source
    (given_as _ c.args.setup.now c.args.options.now.documents.items c.as_slice.result.now c.args.options.now.output.now
    c.as_bytes.result.now c.give_track.result _ _ c.as_slice.ensures.value c.as_bytes.ensures.value (c.give_track.ensures.given clean)) in
    subst (λ answer. IsOkAnd answer (λ file. gives (g.F.Read.remaining file))) c.into_answer.ensures given
