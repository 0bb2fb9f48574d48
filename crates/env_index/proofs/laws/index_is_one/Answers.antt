use Rattle.env_index.proofs.OneIndex.{index_is_one}
use Rattle.env_index.proofs.laws.index_is_one.Goals as goal

pub returns : goal.returns
returns c = λ text a b p q. index_is_one text a b p q
