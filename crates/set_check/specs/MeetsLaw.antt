-- X12.6, transaction set, and the 999 guide, IK3 to IK5: a set meets its guide exactly where nothing is wrong with it.
use Rattle.std.specs.Prelude.{◌≡◌, ◌↔◌, [], Option, Some, None}
use Rattle.hub_kinds.specs.declared.fault.Fault.{Fault}
use Rattle.guide_tree.specs.Words.{GuideTree, IsWellFormed}
use Rattle.set_check.specs.SetParts.{SetParts}
use Rattle.set_check.specs.SetFaults.{IsSetFault, codes_with}
use Rattle.set_check.specs.Meets.{MeetsAlone}

-- the guide, if there is one, has no fault
abbrev pub IsWellGuided : Option GuideTree → Type 0
IsWellGuided None = Unit {0}
IsWellGuided (Some g) = IsWellFormed g

-- no fault and no code
abbrev pub IsClean : Option GuideTree → SetParts → Type 0
IsClean guide parts = ((f : Fault) → IsSetFault guide parts f → ⊥) × (codes_with guide parts [] ≡ [])

abbrev pub IsCleanAsItMeets : Option GuideTree → Type 0
IsCleanAsItMeets guide = (parts : SetParts) → IsClean guide parts ↔ MeetsAlone guide parts
