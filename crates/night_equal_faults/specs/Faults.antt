-- The faults that the definition gives to a set are a list that has exactly the set's faults, each once and in their order.
use Rattle.std.specs.Prelude.{◌≡◌, List, Option}
use Rattle.x12_bytes.specs.declared.delims.Delims.{Delims}
use Rattle.hub_kinds.specs.declared.fault.Fault.{Fault}
use Rattle.hub_kinds.specs.Words.{AreRising}
use Rattle.guide_tree.specs.Tree.{GuideTree}
use Rattle.set_check.specs.SetParts.{SetParts}
use Rattle.set_check.specs.SetFaults.{AreSetFaults}
use Rattle.set_check.specs.MeetsLaw.{IsWellGuided}
use Rattle.night_definition.specs.Envelopes.{Set}
use Rattle.night_definition.specs.Sets.{faults_of}
use Rattle.night_equal_set.specs.Parts.{IsThatSet}

-- by a guide without fault, or by none
abbrev pub FaultsAreOne : Type 0
FaultsAreOne = (guide : Option GuideTree) (d : Delims) (set : Set) (parts : SetParts) (faults : List Fault) → IsThatSet d set parts
    → IsWellGuided guide → AreSetFaults guide parts faults → AreRising faults → faults_of guide d set ≡ faults
