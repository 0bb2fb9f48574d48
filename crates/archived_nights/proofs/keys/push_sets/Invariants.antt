use Rattle.std.proofs.Common.{◌≡◌, ◌++◌, map, take}
use Rattle.night_entries.specs.Again.{key_of}
use Rattle.archived_nights.proofs.keys.push_sets.Given as goal

abbrev pub invariant-loop-i : goal.invariant-loop-i
invariant-loop-i l = map key_of l.sets.items ≡ map key_of l.fn.sets.items ++ take l.i l.keys
