use Rattle.std.proofs.Common.{◌≡◌, map, take}
use Rattle.setup_errors.specs.NamedAlike.{small_name}
use Rattle.setup_errors.proofs.named_alike.small_names.Given as goal

abbrev pub invariant-loop-i : goal.invariant-loop-i
invariant-loop-i l = l.names.items ≡ map small_name (take l.i l.partners)
