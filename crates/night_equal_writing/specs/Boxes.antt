-- A mailbox and the counters after it, by the definition and by the layers.
use Rattle.std.specs.Prelude.{◌≡◌, ℕ, List, length, All}
use Rattle.std.specs.List.{AllZip}
use Rattle.guide_tree.specs.Tree.{GuideTree}
use Rattle.partner_setup.specs.declared.partner.Partner.{Partner}
use Rattle.partner_setup.specs.Setup.{SetupValue}
use Rattle.answered_sets.specs.Judged.{JudgedValue, PlacedValue}
use Rattle.count_numbers.specs.Layout as old_layout
use Rattle.mailbox.specs.Deliveries as old
use Rattle.mailbox.specs.Mailbox as old_box
use Rattle.mailbox.specs.Numbered as old_numbered
use Rattle.mailbox.specs.Numbered.{NumberedValue}
use Rattle.night_definition.specs.Answers.{AnsweredGroup, Answered}
use Rattle.night_definition.specs.Acknowledgments.{acknowledged_to}
use Rattle.night_definition.specs.Deliveries as room
use Rattle.night_definition.specs.Deliveries.{Sent}
use Rattle.night_definition.specs.Night as room_night
use Rattle.night_equal_writing.specs.Deliveries.{room_setup, IsSeen, IsSeenIn, IsPlain, all_sent, open_sets}

-- a set with its number among those that go to a partner
pub record IsNumbered (v : NumberedValue) (x : ℕ × Sent) : Type 0 where
  pub place : x.0 ≡ v.place
  pub set : IsSeen v.set x.1
  pub plain : IsPlain v.set

pub record BoxesAreOne : Type 0 where
  -- the number of interchanges that a number of sets takes, and the sets of each
  pub count : (cap sets : ℕ) → room.interchange_count cap sets ≡ old_layout.interchange_count cap sets
  pub interchanges : (cap : ℕ) (vs : List NumberedValue) → room.interchanges_of cap vs ≡ old_layout.interchanges_of cap vs
  -- the groups of an interchange
  pub groups : (vs : List NumberedValue) (xs : List (ℕ × Sent)) → AllZip IsNumbered vs xs
      → AllZip (AllZip IsNumbered) (old_numbered.groups_of vs) (room.groups_of xs)
  -- a partner's mailbox after its acknowledgments
  pub box : (setup : SetupValue) (guides : List GuideTree) (place : ℕ) (p : Partner) (at : List ℕ) (js : List JudgedValue)
      (xs : List Answered)
      → AllZip (λ p (x : AnsweredGroup × Sent). IsSeenIn p x.0 x.1) (open_sets js) (all_sent xs)
      → All IsPlain (old.delivered_to setup place js)
      → room_night.box_of (room_setup setup guides) at xs place p
      ≡ old_box.box_text setup p at (length (acknowledged_to place xs)) (room_night.groups_in (acknowledged_to place xs))
      (old.delivered_to setup place js)
