-- The acknowledgments of interchanges to a partner are written alike by the definition and by the layers.
use Rattle.std.specs.Prelude.{◌≡◌, ℕ, List, length, All}
use Rattle.std.specs.List.{AllZip}
use Rattle.env_index.specs.Words.{InterchangeEntry}
use Rattle.partner_setup.specs.declared.partner.Partner.{Partner}
use Rattle.partner_setup.specs.Envelopes.{envelope_between}
use Rattle.partner_setup.specs.Setup.{SetupValue}
use Rattle.answered_sets.specs.Answered as old_note
use Rattle.set_answers.specs.Acknowledgments as old
use Rattle.set_answers.specs.CheckedText as old_text
use Rattle.set_answers.specs.CheckedText.{CheckedInterchange}
use Rattle.night_definition.specs.Setup.{Setup, Judged}
use Rattle.night_definition.specs.Answers.{Answered}
use Rattle.night_definition.specs.Acknowledgments as room
use Rattle.night_definition.specs.Night as room_night
use Rattle.night_equal_writing.specs.Acknowledgments.{HaveTheirCodes, acknowledgment}

-- an interchange that is answered, as the layers and the definition have it
pub record IsAnswered (c : CheckedInterchange) (x : Answered) : Type 0 where
  pub acknowledgment : old_text.acknowledgment_of c ≡ acknowledgment x
  pub sender : c.sender ≡ x.judged.sender
  pub codes : All HaveTheirCodes (room.reported x)

pub record AnswersAreOne : Type 0 where
  -- TA105
  pub note : (j : Judged) (x : InterchangeEntry) → x.header ≡ j.interchange.header
      → length x.content.groups ≡ length j.interchange.content.groups → room.ta1_note j ≡ old_note.ta1_note j.sender j.fault x
  -- an acknowledgment: its TA1, its 999s in one group
  pub text : (setup : Setup) (p : Partner) (at : List ℕ) (number control : ℕ) (x : Answered) → All HaveTheirCodes (room.reported x)
      → room.acknowledgment_text setup p at number control x
      ≡ old.acknowledgment_text (envelope_between setup.hub p) at number control (acknowledgment x)
  pub total : (x : Answered) → room.group_total x ≡ old.acknowledgment_group_count (acknowledgment x)
  -- which interchanges are acknowledged to a partner
  pub to : (partner : ℕ) (cs : List CheckedInterchange) (xs : List Answered) → AllZip IsAnswered cs xs
      → AllZip IsAnswered (old_text.acknowledged_to partner cs) (room.acknowledged_to partner xs)
  -- a partner's acknowledgments, how many they are, and how many groups they have
  pub all : (room_setup : Setup) (setup : SetupValue) (place : ℕ) (p : Partner) (at : List ℕ) (cs : List CheckedInterchange)
      (xs : List Answered)
      → room_setup.hub ≡ setup.hub → AllZip IsAnswered cs xs
      → (room_night.ack_of room_setup at xs place p ≡ (old_text.acknowledgments_to setup at cs place p).text)
      × (length (room.acknowledged_to place xs) ≡ (old_text.acknowledgments_to setup at cs place p).count)
      × (room_night.groups_in (room.acknowledged_to place xs) ≡ (old_text.acknowledgments_to setup at cs place p).groups)
