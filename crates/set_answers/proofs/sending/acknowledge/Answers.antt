use Rattle.std.proofs.Common.{◌≡◌, Option, Some, ℕ, sym, ap, ◌∙◌}
use Rattle.std.specs.Prelude.{slice_set}
use Rattle.std.proofs.lemmas.Result.{on_ok_weaker}
use Rattle.set_answers.specs.Acknowledgments.{Acknowledgment}
use Rattle.set_answers.specs.CheckedText.{acknowledgment_of, recipient_by, recipient_of, with_next}
use Rattle.set_answers.proofs.Acknowledging.{filed, to_sender}
use Rattle.set_answers.proofs.sending.acknowledge.Goals as goal

pub returns-in-Some-clause-sent : goal.returns-in-Some-clause-sent
returns-in-Some-clause-sent g c =
    let setup = c.args.setup.now in
    let at = c.args.at.now in
    let files = c.args.files.now in
    let s = c.in-Some.place in
    on_ok_weaker c.add_to.result
    (λ made x from is.
    let to : recipient_of x ≡ Some s = ap (λ (o : Option ℕ). recipient_by o (acknowledgment_of x)) from
    ∙ ap (recipient_by c.args.sender) is ∙ sym c.recipient_by.ensures ∙ c.in-Some.is in
    let within = c.requires.within s (to_sender c.args.sender c.args.acknowledgment.now s (sym c.recipient_by.ensures ∙ c.in-Some.is)) in
    filed setup at files c.add_to.new.files x s within c.requires.count to
    (λ p f at_p at_f. made p f at_p at_f
    ∙ ap (λ (a : Acknowledgment). slice_set files s (with_next setup p at f a)) (sym is)))
    c.add_to.ensures.sent
