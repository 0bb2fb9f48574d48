-- X12.6, transaction set, header (ST) and trailer (SE): a set of which a walk found what is wrong by a guide.
use Rattle.std.specs.Prelude.{ℕ, ◌≡◌, ◌↔◌, ◌∷◌, ◌++◌, [], Bool, List, map, length, Option, Some, None, is_some}
use Rattle.std.specs.List.{Contains}
use Rattle.x12_bytes.specs.declared.delims.Delims.{Delims}
use Rattle.hub_kinds.specs.declared.fault.Fault.{Fault}
use Rattle.x12_segs.specs.Words.{SegValue, elements_of}
use Rattle.guide_tree.specs.Words.{GuideTree}
use Rattle.hl_check.specs.Hierarchy.{IsHierarchyFault}
use Rattle.depend_check.specs.Dependencies.{IsDependencyFault}
use Rattle.set_walk.specs.WalkedBody.{IsBodyFault, places_by}
use Rattle.set_walk.specs.declared.walked.WalkedSet.{WalkedSet}

abbrev pub trailer_list : Option SegValue → List SegValue
trailer_list None = []
trailer_list (Some trailer) = trailer ∷ []

-- Its segments are ST, the body, and SE where it is closed. The list has exactly the faults of the body's structure and elements; nothing
-- is wrong with its hierarchy, read by the delimiters, nor with a dependency, wherever its end is reported.
pub record IsWalkedSet (g : GuideTree) (d : Delims) (closed : Bool) (segs : List SegValue) (w : WalkedSet) : Type 0 where
  pub body : List SegValue
  pub segments : segs ≡ w.ends.header ∷ (body ++ trailer_list w.ends.trailer)
  pub closed_is : is_some w.ends.trailer ≡ closed
  pub count : w.ends.segments ≡ length segs
  pub faults : (f : Fault) → Contains w.faults f ↔ IsBodyFault g body f
  pub hierarchy : (f : Fault) → IsHierarchyFault g d (map elements_of body) (places_by g body) f → ⊥
  pub dependencies : (end : ℕ) (f : Fault) → IsDependencyFault g d (map elements_of body) (places_by g body) end f → ⊥

-- the guide has no rule over a whole set: neither for hierarchies nor a dependency
abbrev pub IsWithoutRules : GuideTree → Type 0
IsWithoutRules g = (g.hl ≡ None) × (g.depends ≡ [])
