use Rattle.whole_interchanges.proofs.Chains.{none_behind}
use Rattle.whole_interchanges.proofs.laws.header_shows_early.Goals as goal

pub returns : goal.returns
returns c = λ read more at le none closed. none_behind read more at le none closed
