use Rattle.night_law.proofs.Tallied.{counters_tallied, numbers_tallied}
use Rattle.night_law.proofs.laws.counters_are_tallied.Goals as goal

pub returns-clause-counters : goal.returns-clause-counters
returns-clause-counters c = counters_tallied

pub returns-clause-numbers : goal.returns-clause-numbers
returns-clause-numbers c = numbers_tallied
