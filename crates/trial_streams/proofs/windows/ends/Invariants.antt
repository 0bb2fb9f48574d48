use Rattle.whole_interchanges.specs.Scouting.{Stands}
use Rattle.trial_streams.proofs.windows.ends.Given as goal

abbrev pub invariant-loop : goal.invariant-loop
invariant-loop l = Stands l.held.bytes l.scout.at l.scout.inside
