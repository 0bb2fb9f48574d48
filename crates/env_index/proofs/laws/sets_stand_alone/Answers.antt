use Rattle.env_index.proofs.Standing.{all_alone}
use Rattle.env_index.proofs.laws.sets_stand_alone.Goals as goal

pub returns : goal.returns
returns c = λ text start tree head derives. all_alone text start tree head derives
