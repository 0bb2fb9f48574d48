use Rattle.hub_ledger.proofs.Rows.{delivers_new}
use Rattle.hub_ledger.proofs.laws.delivers_new.Goals as goal

pub returns : goal.returns
returns c = delivers_new
