use Rattle.std.proofs.Common.{◌≡◌, ◌++◌, drop}
use Rattle.number_register.specs.SeenNumbers.{interchange_keys}
use Rattle.number_register.proofs.seen.keys_of.Given as goal

-- the numbers so far, with those of the interchanges that are left, are all
abbrev pub invariant-loop-entry : goal.invariant-loop-entry
invariant-loop-entry l = l.keys.items ++ interchange_keys (drop l.entry-index l.index.entries) ≡ interchange_keys l.index.entries
