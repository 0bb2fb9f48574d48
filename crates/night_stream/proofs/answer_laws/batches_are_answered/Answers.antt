use Rattle.set_answers.specs.CheckedText.{IsCheckedAs}
use Rattle.night_stream.proofs.Answering.{all_moved, judged_moved}
use Rattle.night_stream.proofs.Pairs.{pairs_joined}
use Rattle.night_stream.proofs.answer_laws.batches_are_answered.Goals as goal

pub returns-clause-moved : goal.returns-clause-moved
returns-clause-moved c = λ before text behind setup es xs spans are. all_moved before text behind setup es xs spans are

pub returns-clause-joined : goal.returns-clause-joined
returns-clause-joined c = λ text setup es fs xs ys first second. pairs_joined (IsCheckedAs text setup) es fs xs ys first second

pub returns-clause-judged : goal.returns-clause-judged
returns-clause-judged c = λ before text behind xs. judged_moved before text behind xs
