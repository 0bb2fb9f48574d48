use Rattle.layers_exist.proofs.Follow.{layers}
use Rattle.layers_exist.proofs.laws.layers_follow.Goals as goal

pub returns : goal.returns
returns c = layers c.each_text_has_a_night.ensures c.nights_are_one.ensures
