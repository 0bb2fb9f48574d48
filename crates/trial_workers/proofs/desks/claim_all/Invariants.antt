use Rattle.std.proofs.Common.{◌≡◌}
use Rattle.trial_workers.proofs.desks.claim_all.Given as goal

abbrev pub invariant-loop : goal.invariant-loop
invariant-loop l = l.seat.desk ≡ l.initial.desk
