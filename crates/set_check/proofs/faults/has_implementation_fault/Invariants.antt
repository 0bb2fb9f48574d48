use Rattle.std.proofs.Common.{◌≡◌, false, take}
use Rattle.std.specs.List.{list_any}
use Rattle.std.specs.Option.{option_map_or}
use Rattle.set_check.specs.Codes.{is_of_guides, reported}
use Rattle.set_check.proofs.faults.has_implementation_fault.Given as goal

abbrev pub invariant-loop-i : goal.invariant-loop-i
invariant-loop-i l = list_any (λ f. option_map_or is_of_guides (reported f) false) (take l.i l.faults) ≡ false
