use Rattle.std.proofs.Common.{List, ℕ, ◌++◌, codes}
use Rattle.night_record.proofs.Between.{after_key, inside}
use Rattle.night_record.proofs.values.text_in.Goals as goal

pub returns-in-Some : goal.returns-in-Some
returns-in-Some c =
    let wrap : List ℕ → List ℕ = λ t. c.args.key.now ++ (codes " = " ++ t) in
    let f : List ℕ → List ℕ = λ t. codes "\"" ++ (t ++ codes "\"") in
    inside wrap f c.unquoted.result c.args.line.now c.in-Some.value.now c.in-Some.ensures (after_key c.args.key.now) c.unquoted.ensures
