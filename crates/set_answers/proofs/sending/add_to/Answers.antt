use Rattle.std.proofs.Common.{ap, ◌∙◌}
use Rattle.std.specs.Prelude.{slice_set}
use Rattle.std.proofs.lemmas.Option.{get_or_from_slice_get}
use Rattle.std.proofs.lemmas.Result.{on_ok_weaker}
use Rattle.set_answers.specs.CheckedText.{SentValues, with_next}
use Rattle.set_answers.proofs.sending.add_to.Goals as goal

pub returns-clause-sent : goal.returns-clause-sent
returns-clause-sent g c =
    let setup = c.args.setup.now in
    let files = c.args.files.now in
    let place = c.args.place in
    let at = c.args.at.now in
    let a = c.args.acknowledgment.now in
    on_ok_weaker c.add.result
    (λ made p f at_p at_f. ap (λ (v : SentValues). slice_set files place v)
    (made p at_p ∙ ap (λ (v : SentValues). with_next setup p at v a)
    (get_or_from_slice_get files place f c.index-files-place.result at_f)))
    c.add.ensures
