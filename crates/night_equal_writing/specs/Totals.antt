-- A night's report with its last line, and a partner's counts after its mailbox, by the definition and by the layers.
use Rattle.std.specs.Prelude.{◌≡◌, ℕ, List, length, sum_by, All}
use Rattle.std.specs.List.{AllZip}
use Rattle.guide_tree.specs.Tree.{GuideTree}
use Rattle.partner_setup.specs.declared.partner.Partner.{Partner}
use Rattle.partner_setup.specs.Setup.{SetupValue}
use Rattle.answered_sets.specs.Judged.{JudgedValue}
use Rattle.count_numbers.specs.Layout as old_layout
use Rattle.mailbox.specs.Deliveries as old
use Rattle.mailbox.specs.Mailbox as old_box
use Rattle.night_report.specs.Report as old_report
use Rattle.night_definition.specs.Answers.{AnsweredGroup, Answered}
use Rattle.night_definition.specs.Deliveries as room
use Rattle.night_definition.specs.Night as room_night
use Rattle.night_definition.specs.Report as room_report
use Rattle.night_equal_writing.specs.Deliveries.{room_setup, IsSeenIn, IsPlain, all_sent, open_sets}
use Rattle.night_equal_writing.specs.Report.{IsTold}

pub record TotalsAreOne : Type 0 where
  -- a report
  pub report : (setup : SetupValue) (guides : List GuideTree) (js : List JudgedValue) (xs : List Answered) (outside : ℕ)
      → AllZip IsTold js xs
      → AllZip (λ p (x : AnsweredGroup × room.Sent). IsSeenIn p x.0 x.1) (open_sets js) (all_sent xs)
      → room_report.report_of (room_setup setup guides) xs outside ≡ old_report.report_text setup js outside
  -- how many interchanges a mailbox has
  pub interchanges : (setup : SetupValue) (guides : List GuideTree) (place : ℕ) (p : Partner) (js : List JudgedValue) (xs : List Answered)
      → AllZip (λ p (x : AnsweredGroup × room.Sent). IsSeenIn p x.0 x.1) (open_sets js) (all_sent xs)
      → length (room_night.sets_to (room_setup setup guides) place p xs)
      ≡ old_layout.interchange_count p.cap (length (old.delivered_to setup place js))
  -- how many groups
  pub groups : (setup : SetupValue) (guides : List GuideTree) (place : ℕ) (p : Partner) (js : List JudgedValue) (xs : List Answered)
      → AllZip (λ p (x : AnsweredGroup × room.Sent). IsSeenIn p x.0 x.1) (open_sets js) (all_sent xs)
      → All IsPlain (old.delivered_to setup place js)
      → sum_by (λ sets. length (room.groups_of sets)) (room_night.sets_to (room_setup setup guides) place p xs)
      ≡ old_box.group_total p.cap (old.delivered_to setup place js)
