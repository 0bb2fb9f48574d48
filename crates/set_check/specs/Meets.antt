-- X12.6, transaction set: when a set meets its guide, looked at alone: a grammar, and what its elements, its HL segments and its
-- dependencies keep to, with no cursor and no list of faults.
use Rattle.std.specs.Prelude.{◌≡◌, ◌≤◌, ℕ, IsTrue, List, map, length, Option, Some, None, ◌⊎◌}
use Rattle.std.specs.List.{Contains}
use Rattle.hub_kinds.specs.Words.{number_of}
use Rattle.hub_kinds.specs.declared.fault.ElemFault.{ElemFault}
use Rattle.guide_tree.specs.Words.{GuideTree, Given, Derives}
use Rattle.x12_bytes.specs.declared.delims.Delims.{Delims}
use Rattle.elem_rules.specs.Divided.{is_empty}
use Rattle.elem_rules.specs.ElementFaults.{IsElementFault}
use Rattle.hl_check.specs.Hierarchy.{IsHierarchyWhole, hl_segments}
use Rattle.depend_check.specs.Kept.{AreDependenciesKept}
use Rattle.x12_segs.specs.Words.{SegValue, element_of}
use Rattle.set_check.specs.Codes.{control_of}
use Rattle.set_check.specs.SetParts.{SetParts, segments_of_set}
use Rattle.set_check.specs.declared.codes.TheConstants.{COUNT_DIGITS, LEAST_CONTROL}

-- ST03 is empty or the guide's convention, where the guide has one
abbrev pub MeetsConvention : Delims → Option (List ℕ) → List ℕ → Type 0
MeetsConvention delims None given = Unit {0}
MeetsConvention delims (Some convention) given = IsTrue (is_empty delims given) ⊎ (given ≡ convention)

-- The set has a guide, which derives its body, each segment with its slot; under these slots no element is at fault and the guide's
-- dependencies are kept; its HL segments make a whole hierarchy; it has an SE, whose SE01 is 1 to 10 digits that write the number of
-- its segments and whose SE02 is ST02; ST02 has 4 or more bytes.
pub record MeetsAlone (guide : Option GuideTree) (parts : SetParts) : Type 0 where
  pub known : GuideTree
  pub guided : guide ≡ Some known
  pub slots : List Given
  pub body : map (λ x. x.0) slots ≡ parts.body
  pub derived : Derives known.nodes slots
  pub elements : (x : Given) (e : ElemFault) → Contains slots x → IsElementFault parts.delims x.0 x.1 e → ⊥
  pub hierarchy : IsHierarchyWhole known.hl parts.delims (hl_segments parts.body)
  pub dependencies : AreDependenciesKept known.depends parts.delims slots
  pub trailer : SegValue
  pub closed : parts.trailer ≡ Some trailer
  pub counted : number_of COUNT_DIGITS (element_of trailer 1) ≡ Some (segments_of_set parts)
  pub same_control : element_of trailer 2 ≡ control_of parts.header
  pub long_control : LEAST_CONTROL ≤ length (control_of parts.header)
  pub convention : MeetsConvention parts.header.delims known.head.convention (element_of parts.header 3)
