use Rattle.std.proofs.Common.{◌≡◌, ◌++◌, map, take}
use Rattle.night_shelf.specs.declared.night.KeptNight.{KeptNight}
use Rattle.night_shelf.proofs.memory.push_names.Given as goal

abbrev pub invariant-loop-i : goal.invariant-loop-i
invariant-loop-i l = l.names.items ≡ l.fn.names.items ++ map (λ (night : KeptNight). night.name) (take l.i l.nights)
