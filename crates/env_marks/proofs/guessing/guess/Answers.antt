use Rattle.std.proofs.Common.{◌∙◌, arith}
use Rattle.env_marks.proofs.Guesses.{guessed_before, guessed_in}
use Rattle.env_marks.proofs.guessing.guess.Goals as goal

pub returns-then-before-gt0 : goal.returns-then-before-gt0
returns-then-before-gt0 c = λ text all le.
    guessed_before text c.args.piece c.list-list.result.now c.count_up_to-before.result (c.list-list.ensures ∙ all)
    (omega (arith, c.requires, le))
    c.count_up_to-before.ensures.value c.if-before-gt0.true

pub returns : goal.returns
returns c = λ text all le.
    c.pair_before.ensures
    ∙ guessed_in text c.args.piece c.list-list.result.now c.count_up_to-before.result (c.list-list.ensures ∙ all) c.requires le
    c.count_up_to-before.ensures.value (omega (arith, c.if-before-gt0.false))
