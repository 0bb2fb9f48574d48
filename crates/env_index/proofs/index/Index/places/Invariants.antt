use Rattle.std.proofs.Common.{◌≡◌, ◌++◌, ◌+◌, map, drop}
use Rattle.env_index.specs.Placed.{place_in, places_behind}
use Rattle.env_index.proofs.index.Index.places.Given as goal

abbrev pub invariant-loop-index : goal.invariant-loop-index
invariant-loop-index l =
    l.places.items ++ map place_in (places_behind (l.index + 1) (drop l.index l.entries)) ≡ map place_in (places_behind 1 l.entries)
