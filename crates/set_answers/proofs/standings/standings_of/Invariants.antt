use Rattle.std.proofs.Common.{◌≡◌, map, take}
use Rattle.set_answers.specs.Standings.{standing_by}
use Rattle.set_answers.proofs.standings.standings_of.Given as goal

abbrev pub invariant-loop-group : goal.invariant-loop-group
invariant-loop-group l = l.standings.items ≡ map standing_by (take l.group-index l.groups)
