use Rattle.layers_exist.proofs.Answers.{no_answer}
use Rattle.layers_exist.proofs.laws.faulty_guides_answer_nothing.Goals as goal

pub returns : goal.returns
returns c = no_answer
