use Rattle.std.proofs.Common.{◌≡◌, ◌++◌, ◌+◌, map, drop}
use Rattle.env_index.specs.Numbers.{set_numbers_from}
use Rattle.env_index.specs.Placed.{place_in}
use Rattle.env_index.proofs.placed.add_sets.Given as goal

abbrev pub invariant-loop-index : goal.invariant-loop-index
invariant-loop-index l =
    l.places.items ++ map place_in (set_numbers_from l.isa l.gs (l.index + 1) (drop l.index l.group.sets))
    ≡ l.fn.places.items ++ map place_in (set_numbers_from l.isa l.gs 1 l.group.sets)
