use Rattle.layers_exist.proofs.Answers.{answers}
use Rattle.layers_exist.proofs.laws.each_group_has_its_answers.Goals as goal

pub returns : goal.returns
returns c = answers c.each_set_has_its_faults.ensures
