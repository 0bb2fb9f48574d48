use Rattle.layers_exist.proofs.Nights.{nights}
use Rattle.layers_exist.proofs.laws.each_text_has_a_night.Goals as goal

pub returns : goal.returns
returns c = nights c.each_text_has_an_index.ensures c.each_group_has_its_answers.ensures
