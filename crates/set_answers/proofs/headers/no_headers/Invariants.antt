use Rattle.std.proofs.Common.{◌≡◌, replicate, None}
use Rattle.set_answers.proofs.headers.no_headers.Given as goal

abbrev pub invariant-loop : goal.invariant-loop
invariant-loop l = l.headers.items ≡ replicate l.counter None
