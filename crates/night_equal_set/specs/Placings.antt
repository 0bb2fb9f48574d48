-- The definition places the segments of a body where the guide's tree does.
use Rattle.std.specs.Prelude.{◌≡◌, ℕ, List, map, Option, None, option_map}
use Rattle.guide_tree.specs.Tree.{Trees}
use Rattle.guide_tree.specs.Places.{Pair, use_of}
use Rattle.guide_tree.specs.Places as old
use Rattle.guide_tree.specs.Nexts.{placing_of}
use Rattle.night_definition.specs.Segments.{Elements}
use Rattle.night_definition.specs.Places.{Place, Spot, Placed, placing}

abbrev pub pair : ℕ × ℕ → Pair
pair a = use_of a.0 a.1

abbrev pub place : Place → old.Place
place p = map pair p

abbrev pub place_of : Option Spot → Option old.Place
place_of o = option_map (λ x. place x.place) o

abbrev pub places_of : List Placed → List (Option old.Place)
places_of placed = map (λ (p : Placed). place_of p.spot) placed

-- whatever the first position
abbrev pub PlacingsAreOne : Type 0
PlacingsAreOne = (ts : Trees) (n : ℕ) (body : List Elements) → places_of (placing ts None n body) ≡ placing_of ts body
