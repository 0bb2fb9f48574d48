use Rattle.std.proofs.Common.{List, ℕ, ◌++◌, codes}
use Rattle.night_record.proofs.Between.{after_key, numbered}
use Rattle.night_record.proofs.values.number_of.Goals as goal

pub returns-in-Some : goal.returns-in-Some
returns-in-Some c =
    let wrap : List ℕ → List ℕ = λ t. c.args.key.now ++ (codes " = " ++ t) in
    numbered wrap c.number_in.result c.args.line.now c.in-Some.value.now c.in-Some.ensures (after_key c.args.key.now) c.number_in.ensures
