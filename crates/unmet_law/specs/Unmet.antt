-- X12.6, transaction set: what a guide that is warned of as one that no set can meet has to do with sets.
use Rattle.std.specs.Prelude.{◌≢◌, List, [], Some}
use Rattle.std.specs.List.{Contains}
use Rattle.x12_bytes.specs.declared.delims.Delims.{Delims}
use Rattle.hub_kinds.specs.declared.fault.ElemFault.{ElemFault}
use Rattle.guide_tree.specs.Words.{Derives, Given, GuideTree, Trees}
use Rattle.elem_rules.specs.ElementFaults.{IsElementFault}
use Rattle.guide_warnings.specs.Unmet.{unmet_nodes}
use Rattle.set_check.specs.Meets.{MeetsAlone}
use Rattle.set_check.specs.SetParts.{SetParts}

-- some segment has an element that is at fault by the segment's slot
pub record HasElementFault (delims : Delims) (slots : List Given) : Type 0 where
  pub given : Given
  pub among : Contains slots given
  pub fault : ElemFault
  pub is : IsElementFault delims given.0 given.1 fault

-- where nodes have such an element, each body that they derive has such a segment
abbrev pub UnmetIsFaulty : Type 0
UnmetIsFaulty = (nodes : Trees) → unmet_nodes nodes ≢ [] → (delims : Delims) (slots : List Given) → Derives nodes slots
    → HasElementFault delims slots

-- and no set meets the guide that has the nodes
abbrev pub UnmetIsMetByNone : Type 0
UnmetIsMetByNone = (guide : GuideTree) → unmet_nodes guide.nodes ≢ [] → (parts : SetParts) → MeetsAlone (Some guide) parts → ⊥
