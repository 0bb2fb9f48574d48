use Rattle.std.proofs.Common.{◌≡◌, ◌++◌, drop, map}
use Rattle.key_errors.specs.KeysSaid.{keys_said}
use Rattle.key_errors.specs.Seen.{seen}
use Rattle.key_errors.proofs.keys_said.push_spots.Given as goal

abbrev pub invariant-loop-i : goal.invariant-loop-i
invariant-loop-i l =
    l.found.items ++ keys_said (map seen (drop l.i l.spots)) ≡ l.initial.found.items ++ keys_said (map seen l.spots)
