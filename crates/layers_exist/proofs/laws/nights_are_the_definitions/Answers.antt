use Rattle.layers_exist.proofs.Follow.{definitions}
use Rattle.layers_exist.proofs.laws.nights_are_the_definitions.Goals as goal

pub returns : goal.returns
returns c = definitions c.layers_follow.ensures c.whole_nights_are_one.ensures
