-- The places of a body's segments, as the layers give them.
use Rattle.std.specs.Prelude.{List, map, Option, option_map}
use Rattle.guide_tree.specs.Places as old
use Rattle.night_definition.specs.Places.{Place}
use Rattle.night_equal_set.specs.Placings.{place}

abbrev pub given : List (Option Place) → List (Option old.Place)
given g = map (option_map place) g
