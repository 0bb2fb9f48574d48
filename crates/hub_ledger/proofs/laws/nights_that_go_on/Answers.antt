use Rattle.hub_ledger.specs.Events.{entries_of}
use Rattle.hub_ledger.proofs.Consecutive.{consecutive}
use Rattle.hub_ledger.proofs.Rows.{apart}
use Rattle.hub_ledger.proofs.laws.nights_that_go_on.Goals as goal

pub returns : goal.returns
returns c nights go all = record { apart = apart (entries_of nights) go; numbers = consecutive nights go all }
