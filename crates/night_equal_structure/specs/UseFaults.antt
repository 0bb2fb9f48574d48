-- Segments and loops used too often or too seldom are reported alike.
use Rattle.std.specs.Prelude.{◌↔◌, ◌⊎◌, ℕ, List, [], None, filter_map, option_map}
use Rattle.std.specs.List.{Contains}
use Rattle.hub_kinds.specs.declared.fault.Fault.{Fault}
use Rattle.guide_tree.specs.Tree.{GuideTree}
use Rattle.guide_tree.specs.Words.{IsWellFormed, placing_of, IsPast, IsShort}
use Rattle.night_definition.specs.Segments.{Elements}
use Rattle.night_definition.specs.Places.{Spot, Placed, placing}
use Rattle.night_definition.specs.Structure.{Standing, faults_in}

-- the segments that have places, each with its position, as `structure_faults` takes them
abbrev pub standings_of : List Placed → List Standing
standings_of placed = filter_map (λ (p : Placed). option_map (λ (x : Spot). (p.position, x.place)) p.spot) placed

-- whatever the position after the body
abbrev pub UseFaultsAreOne : Type 0
UseFaultsAreOne = (g : GuideTree) (body : List Elements) (end : ℕ) (f : Fault) → IsWellFormed g
    → Contains (faults_in [] g.nodes 0 (standings_of (placing g.nodes None 2 body)) end) f
    ↔ IsPast g.nodes (placing_of g.nodes body) f ⊎ IsShort g.nodes (placing_of g.nodes body) end f
