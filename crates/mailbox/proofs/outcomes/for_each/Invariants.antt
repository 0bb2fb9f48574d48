use Rattle.std.proofs.Common.{◌≡◌, map, take}
use Rattle.mailbox.specs.Deliveries.{outcome_at}
use Rattle.mailbox.proofs.outcomes.for_each.Given as goal

abbrev pub invariant-loop-to : goal.invariant-loop-to
invariant-loop-to l = l.outcomes.items ≡ map (outcome_at l.setup l.placed) (take l.to-index l.route)
