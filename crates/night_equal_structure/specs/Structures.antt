-- The structural faults of a body are the same: segments and loops used too often or too seldom, and segments that have no place.
use Rattle.std.specs.Prelude.{◌↔◌, ℕ, List, None}
use Rattle.std.specs.List.{Contains}
use Rattle.hub_kinds.specs.declared.fault.Fault.{Fault}
use Rattle.guide_tree.specs.Tree.{GuideTree}
use Rattle.guide_tree.specs.Words.{IsWellFormed, placing_of, IsStructureFault}
use Rattle.night_definition.specs.Segments.{Elements}
use Rattle.night_definition.specs.Places.{placing}
use Rattle.night_definition.specs.Structure.{structure_faults}

-- whatever the position after the body
abbrev pub StructuresAreOne : Type 0
StructuresAreOne = (g : GuideTree) (body : List Elements) (end : ℕ) (f : Fault) → IsWellFormed g
    → Contains (structure_faults g (placing g.nodes None 2 body) end) f ↔ IsStructureFault g body (placing_of g.nodes body) end f
