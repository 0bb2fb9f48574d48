use Rattle.hub_ledger.proofs.Steps.{shows_committed}
use Rattle.hub_ledger.proofs.laws.shows_committed.Goals as goal

pub returns : goal.returns
returns c = shows_committed
