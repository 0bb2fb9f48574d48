use Rattle.std.proofs.Common.{◌≡◌, map, take}
use Rattle.setup_errors.specs.Named.{partner_name}
use Rattle.setup_errors.proofs.rows_said.names_of.Given as goal

abbrev pub invariant-loop-i : goal.invariant-loop-i
invariant-loop-i l = l.names.items ≡ map partner_name (take l.i l.partners)
