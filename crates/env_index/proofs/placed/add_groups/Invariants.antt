use Rattle.std.proofs.Common.{◌≡◌, ◌++◌, ◌+◌, map, drop}
use Rattle.env_index.specs.Numbers.{group_numbers_from}
use Rattle.env_index.specs.Placed.{place_in}
use Rattle.env_index.proofs.placed.add_groups.Given as goal

abbrev pub invariant-loop-index : goal.invariant-loop-index
invariant-loop-index l =
    l.places.items ++ map place_in (group_numbers_from l.isa (l.index + 1) (drop l.index l.interchange.content.groups))
    ≡ l.fn.places.items ++ map place_in (group_numbers_from l.isa 1 l.interchange.content.groups)
