-- The segments that have no place are reported alike.
use Rattle.std.specs.Prelude.{◌↔◌, List, None}
use Rattle.std.specs.List.{Contains}
use Rattle.hub_kinds.specs.declared.fault.Fault.{Fault}
use Rattle.guide_tree.specs.Tree.{GuideTree}
use Rattle.guide_tree.specs.Nexts.{placing_of}
use Rattle.guide_tree.specs.Structure as old
use Rattle.night_definition.specs.Segments.{Elements}
use Rattle.night_definition.specs.Places.{placing}
use Rattle.night_definition.specs.Structure as room

abbrev pub StraysAreOne : Type 0
StraysAreOne = (g : GuideTree) (body : List Elements) (f : Fault)
    → Contains (room.stray_faults g (placing g.nodes None 2 body)) f ↔ old.IsStray g body (placing_of g.nodes body) f
