-- A set meets its guide by the one exactly if it does by the other.
use Rattle.std.specs.Prelude.{◌≡◌, ◌↔◌, IsTrue, List, Option, Some}
use Rattle.std.specs.List.{Contains, list_all}
use Rattle.x12_bytes.specs.declared.delims.Delims.{Delims}
use Rattle.guide_tree.specs.Tree.{GuideTree}
use Rattle.guide_tree.specs.Words.{is_condition_of}
use Rattle.guide_tree.specs.declared.rows.Dependency.{Dependency}
use Rattle.set_check.specs.SetParts.{SetParts}
use Rattle.set_check.specs.Meets as old
use Rattle.depend_check.specs.Kept as old_kept
use Rattle.night_definition.specs.Envelopes.{Set}
use Rattle.night_definition.specs.Guides.{Given, Derives}
use Rattle.night_definition.specs.Sets as room
use Rattle.night_equal_set.specs.Parts.{IsThatSet}

-- the conditions of each slot that it gives list rows of the slot, as every accepted guide's do
abbrev pub IsConditioned : GuideTree → Type 0
IsConditioned g = (xs : List Given) (x : Given) → Derives g.nodes xs → Contains xs x
    → IsTrue (list_all (is_condition_of x.1) x.1.conditions)

abbrev pub TargetsAreOne : Type 0
TargetsAreOne = (d : Delims) (xs : List Given) (r : Dependency) → room.IsTargetKept d xs r
    ↔ old_kept.IsTargetKept d xs r.target r.kind r.element

abbrev pub MeetingsAreOne : Type 0
MeetingsAreOne = (guide : Option GuideTree) (d : Delims) (set : Set) (parts : SetParts) → IsThatSet d set parts
    → ((g : GuideTree) → guide ≡ Some g → IsConditioned g) → room.MeetsAlone guide d set ↔ old.MeetsAlone guide parts
