-- The files of a night are those of the definition.
use Rattle.std.proofs.Common.{◌≡◌, ℕ, suc, ◌+◌, ◌≤◌, List, [], ◌∷◌, map, length, refl, sym, ap, ◌∙◌}
use Rattle.std.specs.Prelude.{sum_by}
use Rattle.std.specs.List.{All, AllZip}
use Rattle.std.proofs.lemmas.Slice.Zip.{AllZip-long}
use Rattle.hub_kinds.specs.declared.counters.Counters.{Counters}
use Rattle.guide_tree.specs.View.{guide_of}
use Rattle.guide_tree.specs.Tree.{GuideTree}
use Rattle.partner_setup.specs.declared.partner.Partner.{Partner}
use Rattle.partner_setup.specs.Setup.{SetupValue}
use Rattle.partner_setup.specs.Sound.{IsSoundPartner, IsSoundSetup}
use Rattle.count_numbers.specs.Layout as old_layout
use Rattle.count_numbers.specs.Num as old_num
use Rattle.answered_sets.specs.Judged.{JudgedValue}
use Rattle.mailbox.specs.Deliveries as old_deliveries
use Rattle.mailbox.specs.Mailbox as old_box
use Rattle.set_answers.specs.CheckedText.{CheckedInterchange, acknowledged_to, groups_to}
use Rattle.night_batches.specs.Night.{IsNight, acks_of, box_of, next_of, judgements, sets_to}
use Rattle.night_batches.specs.declared.night.Night as then
use Rattle.night_law.proofs.ForAbove.{at_index}
use Rattle.night_definition.specs.Interchanges.{text_of}
use Rattle.night_definition.specs.Elements.{numbered}
use Rattle.night_definition.specs.Setup.{Setup}
use Rattle.night_definition.specs.Answers.{Answered}
use Rattle.night_definition.specs.Acknowledgments as room_acks
use Rattle.night_definition.specs.Deliveries as room_deliveries
use Rattle.night_definition.specs.Deliveries.{Sent}
use Rattle.night_definition.specs.Report.{report_of}
use Rattle.night_definition.specs.Night as room
use Rattle.night_equal_text.specs.LookedUp.{seen_setup}
use Rattle.night_equal_text.specs.Laws.{TextsAreIndexes}
use Rattle.night_equal_writing.specs.Answers as answers_law
use Rattle.night_equal_writing.specs.Answers.{IsAnswered}
use Rattle.night_equal_writing.specs.Boxes.{BoxesAreOne}
use Rattle.night_equal_writing.specs.Deliveries.{DeliveriesAreOne, IsSeen, IsPlain, all_sent, open_sets}
use Rattle.night_equal_writing.specs.Report.{IsTold}
use Rattle.night_equal_writing.specs.Texts.{TextsAreOne}
use Rattle.night_equal_writing.specs.Totals.{TotalsAreOne}
use Rattle.night_equal_night.specs.Night.{IsThatNight, NightsAreOne}
use Rattle.night_equal_night.proofs.Counted.{sets_counted}
use Rattle.night_equal_night.proofs.Known.{TextLaws, known_answers, known_plain, known_seen, known_told}
use Rattle.night_equal_night.proofs.Pairs.{by_place}
use Rattle.night_equal_night.proofs.Seen.{Seen}

-- what is known of a text, of answers, and of what is written
pub record Laws : Type 0 where
  pub known : TextLaws
  pub indexes : TextsAreIndexes
  pub texts : TextsAreOne
  pub answers : answers_law.AnswersAreOne
  pub deliveries : DeliveriesAreOne
  pub boxes : BoxesAreOne
  pub totals : TotalsAreOne

abbrev counters : ℕ → ℕ → ℕ → Counters
counters interchange group set = record { interchange = interchange; group = group; set = set }

numbered_long : {A : Type 0} (n : ℕ) (xs : List A) → length (numbered n xs) ≡ length xs
numbered_long n [] = refl
numbered_long n (x ∷ xs) = ap suc (numbered_long (n + 1) xs)

module _ (laws : Laws) (text : List ℕ) (setup : SetupValue) (at : List ℕ) (night : then.Night) (sound : IsSoundSetup setup)
    (is : IsNight text setup at night) where
  abbrev known : List CheckedInterchange
  known = is.known

  abbrev now : Setup
  now = seen_setup setup

  abbrev guides : List GuideTree
  guides = map guide_of setup.guides

  abbrev js : List JudgedValue
  js = judgements text known

  abbrev xs : List Answered
  xs = room.answered_text text now

  answers_zip : AllZip IsAnswered known xs
  answers_zip = known_answers laws.known text setup known is.outside is.is_known

  told_zip : AllZip IsTold js xs
  told_zip = known_told laws.known text setup known is.outside is.is_known

  seen_zip : AllZip Seen (open_sets js) (all_sent xs)
  seen_zip = known_seen laws.known text setup known is.outside is.is_known

  module _ (place : ℕ) (p : Partner) where
    abbrev acks : List Answered
    acks = room_acks.acknowledged_to place xs

    ack_is : (room.ack_of now at xs place p ≡ acks_of setup at known place p)
        × (length acks ≡ length (acknowledged_to place known))
        × (room.groups_in acks ≡ groups_to (acknowledged_to place known))
    ack_is = laws.answers.all now setup place p at known xs refl answers_zip

    plain : All IsPlain (old_deliveries.delivered_to setup place js)
    plain = known_plain text setup known is.outside is.is_known place

    box_is : room.box_of now at xs place p ≡ box_of text setup at known place p
    box_is =
        laws.boxes.box setup guides place p at js xs seen_zip plain
        ∙ ap (λ n. old_box.box_text setup p at n (room.groups_in acks) (old_deliveries.delivered_to setup place js)) ack_is.1
        ∙ ap (λ n. old_box.box_text setup p at (length (acknowledged_to place known)) n (old_deliveries.delivered_to setup place js))
        ack_is.2

    abbrev boxes : List (List (ℕ × Sent))
    boxes = room.sets_to now place p xs

    sets_are : 1 ≤ p.cap → sum_by length boxes ≡ length (sets_to text setup known place)
    sets_are some =
        sets_counted p.cap (numbered 0 (room_deliveries.delivered_to now place xs)) some
        ∙ numbered_long 0 (room_deliveries.delivered_to now place xs)
        ∙ AllZip-long IsSeen (old_deliveries.delivered_to setup place js) (room_deliveries.delivered_to now place xs)
        (laws.deliveries.to setup guides place js xs seen_zip)

    next_is : 1 ≤ p.cap → room.next_of now xs place p ≡ next_of text setup known place p
    next_is some =
        let c : Counters = p.counters in
        let n : ℕ = length (acknowledged_to place known) + old_layout.interchange_count p.cap (length (sets_to text setup known place)) in
        let g : ℕ = groups_to (acknowledged_to place known) + old_box.group_total p.cap (sets_to text setup known place) in
        let first : room_acks.num c.interchange (length acks + length boxes) ≡ old_num.num c.interchange n =
        ap (λ k. room_acks.num c.interchange (k + length boxes)) ack_is.1
        ∙ ap (λ k. room_acks.num c.interchange (length (acknowledged_to place known) + k))
        (laws.totals.interchanges setup guides place p js xs seen_zip)
        ∙ laws.texts.num c.interchange n in
        let second : room_acks.num c.group (room.groups_in acks + sum_by (λ sets. length (room_deliveries.groups_of sets)) boxes)
        ≡ old_num.num c.group g =
        ap (λ k. room_acks.num c.group (k + sum_by (λ sets. length (room_deliveries.groups_of sets)) boxes)) ack_is.2
        ∙ ap (λ k. room_acks.num c.group (groups_to (acknowledged_to place known) + k))
        (laws.totals.groups setup guides place p js xs seen_zip plain)
        ∙ laws.texts.num c.group g in
        let third : room_acks.num c.set (sum_by length boxes) ≡ old_num.num c.set (length (sets_to text setup known place)) =
        ap (room_acks.num c.set) (sets_are some) ∙ laws.texts.num c.set (length (sets_to text setup known place)) in
        ap (λ k. counters k (room_acks.num c.group (room.groups_in acks + sum_by (λ sets. length (room_deliveries.groups_of sets)) boxes))
        (room_acks.num c.set (sum_by length boxes))) first
        ∙ ap (λ k. counters (old_num.num c.interchange n) k (room_acks.num c.set (sum_by length boxes))) second
        ∙ ap (counters (old_num.num c.interchange n) (old_num.num c.group g)) third

  outside_is : is.outside ≡ (text_of text).outside
  outside_is = is.is_known.counted ∙ sym (laws.indexes text is.is_known.index is.is_known.read).1

  that_night : IsThatNight night (room.night_of text now at)
  that_night = record {
    acks = by_place (acks_of setup at known) (room.ack_of now at xs) setup.partners night.acks is.is.acks
        (λ place p at_place. sym (ack_is place p).0);
    boxes = by_place (box_of text setup at known) (room.box_of now at xs) setup.partners night.boxes is.is.boxes
        (λ place p at_place. sym (box_is place p));
    report = is.is.report
        ∙ sym (laws.totals.report setup guides js xs is.outside told_zip seen_zip)
        ∙ ap (λ n. report_of now xs n) outside_is;
    next = by_place (next_of text setup known) (room.next_of now xs) setup.partners night.next is.is.next
        (λ place p at_place. sym (next_is place p
        (at_index (IsSoundPartner (length setup.guides)) setup.partners place p at_place sound.partners).cap_least));
  }

pub nights : Laws → NightsAreOne
nights laws text setup at night sound is = that_night laws text setup at night sound is
