use Rattle.x12_segs.specs.Words.{kind_of}
use Rattle.env_index.proofs.OneTree.{tree_is_one}
use Rattle.env_index.proofs.laws.envelope_is_one.Goals as goal

pub returns : goal.returns
returns c = λ segs a b p q. tree_is_one kind_of segs a b p q
