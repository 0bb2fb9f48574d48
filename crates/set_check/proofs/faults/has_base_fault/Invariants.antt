use Rattle.std.proofs.Common.{◌≡◌, false, not, take}
use Rattle.std.specs.List.{list_any}
use Rattle.std.specs.Option.{option_map_or}
use Rattle.set_check.specs.Codes.{is_of_guides, reported}
use Rattle.set_check.proofs.faults.has_base_fault.Given as goal

abbrev pub invariant-loop-i : goal.invariant-loop-i
invariant-loop-i l = list_any (λ f. option_map_or (λ c. not (is_of_guides c)) (reported f) false) (take l.i l.faults) ≡ false
