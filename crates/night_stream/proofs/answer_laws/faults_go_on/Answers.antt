use Rattle.set_answers.proofs.ForAbove.{by_numbers}
use Rattle.night_stream.proofs.Numbering.{faults_moved, keys_behind, settled_joined}
use Rattle.night_stream.proofs.answer_laws.faults_go_on.Goals as goal

pub returns-clause-by_numbers : goal.returns-clause-by_numbers
returns-clause-by_numbers c = by_numbers

pub returns-clause-moved : goal.returns-clause-moved
returns-clause-moved c = faults_moved

pub returns-clause-numbers : goal.returns-clause-numbers
returns-clause-numbers c = keys_behind

pub returns-clause-settled : goal.returns-clause-settled
returns-clause-settled c = settled_joined
