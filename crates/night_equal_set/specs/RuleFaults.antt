-- The faults of a set's hierarchy and of its guide's dependencies are the same.
use Rattle.std.specs.Prelude.{◌↔◌, ◌++◌, ℕ, List, None}
use Rattle.std.specs.List.{Contains}
use Rattle.x12_bytes.specs.declared.delims.Delims.{Delims}
use Rattle.hub_kinds.specs.declared.fault.Fault.{Fault}
use Rattle.guide_tree.specs.Tree.{GuideTree}
use Rattle.guide_tree.specs.Nexts.{placing_of}
use Rattle.set_check.specs.SetFaults as old
use Rattle.night_definition.specs.Segments.{Elements}
use Rattle.night_definition.specs.Places.{placing, uses}
use Rattle.night_definition.specs.Rules as room

abbrev pub RuleFaultsAreOne : Type 0
RuleFaultsAreOne = (g : GuideTree) (d : Delims) (body : List Elements) (end : ℕ) (f : Fault)
    → Contains (room.hierarchy_faults g d (uses (placing g.nodes None 2 body))
    ++ room.dependency_faults g d end (uses (placing g.nodes None 2 body))) f
    ↔ old.IsRuleFault g d body (placing_of g.nodes body) end f
