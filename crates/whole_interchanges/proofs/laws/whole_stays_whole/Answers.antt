use Rattle.whole_interchanges.proofs.Chains.{chain_on, chain_read, whole_chain}
use Rattle.whole_interchanges.proofs.laws.whole_stays_whole.Goals as goal

pub returns-clause-whole : goal.returns-clause-whole
returns-clause-whole c = λ read more from to xs whole. whole_chain read more from to xs whole

pub returns-clause-alone : goal.returns-clause-alone
returns-clause-alone c = λ text from to xs within chain. chain_read text to within from xs chain

pub returns-clause-further : goal.returns-clause-further
returns-clause-further c = λ text from to xs ys chain later. chain_on text from to xs ys chain later
