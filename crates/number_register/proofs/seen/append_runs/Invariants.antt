use Rattle.std.proofs.Common.{◌≡◌, ◌++◌, drop}
use Rattle.number_register.specs.SeenNumbers.{keys_in}
use Rattle.number_register.proofs.seen.append_runs.Given as goal

abbrev pub invariant-loop-other : goal.invariant-loop-other
invariant-loop-other l = l.run.items ++ keys_in (drop l.other-index l.others) ≡ l.initial.run.items ++ keys_in l.others
