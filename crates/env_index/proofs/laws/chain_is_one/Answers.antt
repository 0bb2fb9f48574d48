use Rattle.env_index.proofs.OneChain.{chain_from_is_one}
use Rattle.env_index.proofs.laws.chain_is_one.Goals as goal

pub returns : goal.returns
returns c = λ text xs ys p q. chain_from_is_one text 0 xs ys p q
