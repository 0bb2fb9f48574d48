use Rattle.hub_ledger.proofs.Steps.{delivers_once}
use Rattle.hub_ledger.proofs.laws.delivers_once.Goals as goal

pub returns : goal.returns
returns c = delivers_once
