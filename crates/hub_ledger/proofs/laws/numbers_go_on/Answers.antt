use Rattle.hub_ledger.proofs.Steps.{numbers_go_on}
use Rattle.hub_ledger.proofs.laws.numbers_go_on.Goals as goal

pub returns : goal.returns
returns c = numbers_go_on
