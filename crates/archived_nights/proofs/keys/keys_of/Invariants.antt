use Rattle.std.proofs.Common.{◌≡◌, map, take}
use Rattle.night_entries.specs.Again.{key_of}
use Rattle.archived_nights.proofs.keys.keys_of.Given as goal

abbrev pub invariant-loop-i : goal.invariant-loop-i
invariant-loop-i l = l.keys.items ≡ map key_of (take l.i l.sets)
