-- The lines of a night's report, by the definition and by the layers.
use Rattle.std.specs.Prelude.{◌≡◌, ℕ, ◌+◌, Bool, false, List, length, flat_map}
use Rattle.std.specs.List.{AllZip}
use Rattle.x12_segs.specs.Words.{elements_of}
use Rattle.guide_tree.specs.Tree.{GuideTree}
use Rattle.partner_setup.specs.Setup.{SetupValue}
use Rattle.answered_sets.specs.Judged.{JudgedValue, PlacedValue, is_fa}
use Rattle.night_report.specs.Report as old
use Rattle.night_report.specs.Report.{ShownGroup}
use Rattle.night_definition.specs.Elements.{numbered}
use Rattle.night_definition.specs.Answers.{Answer, AnsweredGroup, Answered, accepted_sets}
use Rattle.night_definition.specs.Deliveries.{sent}
use Rattle.night_definition.specs.Report as room
use Rattle.night_equal_writing.specs.Deliveries.{room_setup, IsSeenIn}

-- a set of a group, with its number there
pub record IsSet (x : Answered) (g : AnsweredGroup) (p : PlacedValue) (a : ℕ × Answer) : Type 0 where
  pub number : p.index + 1 ≡ a.0
  pub set : IsSeenIn p g (sent x g a.1)

-- a group of an interchange; of one that is FA no verdict counts
pub record IsShown (x : Answered) (s : ShownGroup) (g : AnsweredGroup) : Type 0 where
  pub fa : is_fa s.group ≡ g.is_fa
  pub gs : elements_of s.group.header ≡ g.group.header.elements
  pub count : length s.group.sets ≡ length g.answers
  pub verdict : g.is_fa ≡ false → s.standing.verdict ≡ g.verdict
  pub accepted : g.is_fa ≡ false → s.standing.accepted ≡ accepted_sets g
  pub sets : AllZip (IsSet x g) (old.placed_sets_in s) (numbered 1 g.answers)

-- an interchange
pub record IsTold (j : JudgedValue) (x : Answered) : Type 0 where
  pub header : j.interchange.header ≡ x.judged.interchange.header
  pub start : j.interchange.start ≡ x.judged.interchange.start
  pub sender : j.sender ≡ x.judged.sender
  pub fault : j.fault ≡ x.judged.fault
  pub ta1s : j.interchange.content.ta1s ≡ x.judged.interchange.content.ta1s
  pub count : length j.interchange.content.groups ≡ length x.judged.interchange.content.groups
  pub groups : AllZip (IsShown x) (old.groups_shown j) x.groups

pub record ReportsAreOne : Type 0 where
  -- the lines of a group, of an interchange, and of all
  pub group : (setup : SetupValue) (guides : List GuideTree) (x : Answered) (s : ShownGroup) (g : AnsweredGroup) → IsShown x s g
      → room.group_lines (room_setup setup guides) x g ≡ old.group_lines setup s
  pub interchange : (setup : SetupValue) (guides : List GuideTree) (n : ℕ) (j : JudgedValue) (x : Answered) → IsTold j x
      → room.interchange_lines (room_setup setup guides) n x ≡ old.interchange_lines setup 0 n j
  pub all : (setup : SetupValue) (guides : List GuideTree) (n : ℕ) (js : List JudgedValue) (xs : List Answered) → AllZip IsTold js xs
      → flat_map (λ (x : ℕ × Answered). room.interchange_lines (room_setup setup guides) x.0 x.1) (numbered n xs)
      ≡ old.all_lines setup 0 n js
