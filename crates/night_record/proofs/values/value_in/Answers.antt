use Rattle.std.proofs.Common.{List, ℕ, ◌++◌, codes}
use Rattle.std.proofs.lemmas.List.{append_cancel_left}
use Rattle.night_record.proofs.Between.{inside}
use Rattle.night_record.proofs.values.value_in.Goals as goal

pub returns-in-Some : goal.returns-in-Some
returns-in-Some c =
    let wrap : List ℕ → List ℕ = λ t. c.args.key.now ++ t in
    let f : List ℕ → List ℕ = λ t. codes " = " ++ t in
    inside wrap f c.rest_after-in-Some.result c.args.line.now c.in-Some.rest.now c.in-Some.ensures
    (λ a b same. append_cancel_left c.args.key.now a b same) c.rest_after-in-Some.ensures
