use Rattle.std.proofs.Common.{◌≡◌, ◌-◌, ◌≤◌, true}
use Rattle.whole_interchanges.specs.Begun.{are_fields_begun}
use Rattle.whole_interchanges.proofs.begin.are_fields_begun.Given as goal

abbrev pub invariant-loop-k : goal.invariant-loop-k
invariant-loop-k l = record { from : 1 ≤ l.k; begun : are_fields_begun l.bytes (l.k - 1) ≡ true }
