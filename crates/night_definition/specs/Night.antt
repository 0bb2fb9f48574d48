-- own: the night of a text, a setup and a moment.
use Rattle.std.specs.Prelude.{ℕ, ◌+◌, List, [], map, length, sum_by}
use Rattle.hub_kinds.specs.declared.counters.Counters.{Counters}
use Rattle.partner_setup.specs.declared.partner.Partner.{Partner}
use Rattle.night_definition.specs.Interchanges.{text_of}
use Rattle.night_definition.specs.Elements.{numbered}
use Rattle.night_definition.specs.Setup.{Setup, judged_after}
use Rattle.night_definition.specs.Answers.{Answered, answered}
use Rattle.night_definition.specs.Acknowledgments.{num, acknowledged_to, acknowledgments_after, group_total}
use Rattle.night_definition.specs.Deliveries.{Sent, delivered_to, interchanges_of, groups_of, box_after}
use Rattle.night_definition.specs.Report.{report_of}

-- for each partner its acknowledgments, its mailbox and its next counters; and one report
pub record Night : Type 0 where
  pub acks : List (List ℕ)
  pub boxes : List (List ℕ)
  pub report : List ℕ
  pub next : List Counters

-- the interchanges of a text, answered
abbrev pub answered_text : (text : List ℕ) → Setup → List Answered
answered_text text setup = map (answered setup) (judged_after setup [] (text_of text).interchanges)

abbrev pub groups_in : List Answered → ℕ
groups_in xs = sum_by group_total xs

-- the sets that go to a partner, by the interchanges that they go in, each with its number
abbrev pub sets_to : Setup → (place : ℕ) → Partner → List Answered → List (List (ℕ × Sent))
sets_to setup place p xs = interchanges_of p.cap (numbered 0 (delivered_to setup place xs))

abbrev pub ack_of : Setup → (at : List ℕ) → List Answered → (place : ℕ) → Partner → List ℕ
ack_of setup at xs place p = acknowledgments_after setup p at 0 0 (acknowledged_to place xs)

abbrev pub box_of : Setup → (at : List ℕ) → List Answered → (place : ℕ) → Partner → List ℕ
box_of setup at xs place p =
    let acks = acknowledged_to place xs in
    box_after setup p at (length acks) (groups_in acks) (sets_to setup place p xs)

abbrev pub next_of : Setup → List Answered → (place : ℕ) → Partner → Counters
next_of setup xs place p =
    let acks = acknowledged_to place xs in
    let boxes = sets_to setup place p xs in
    record {
      interchange = num p.counters.interchange (length acks + length boxes);
      group = num p.counters.group (groups_in acks + sum_by (λ sets. length (groups_of sets)) boxes);
      set = num p.counters.set (sum_by length boxes);
    }

abbrev pub night_of : (text : List ℕ) → Setup → (at : List ℕ) → Night
night_of text setup at =
    let xs = answered_text text setup in
    let partners = numbered 0 setup.partners in
    record {
      acks = map (λ p. ack_of setup at xs p.0 p.1) partners;
      boxes = map (λ p. box_of setup at xs p.0 p.1) partners;
      report = report_of setup xs (text_of text).outside;
      next = map (λ p. next_of setup xs p.0 p.1) partners;
    }
