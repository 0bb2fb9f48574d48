-- What is known of a text is what the definition answers.
use Rattle.std.proofs.Common.{ℕ, List, []}
use Rattle.std.specs.List.{All, AllZip}
use Rattle.partner_setup.specs.Setup.{SetupValue}
use Rattle.mailbox.specs.Deliveries.{delivered_to}
use Rattle.set_answers.specs.CheckedText.{CheckedInterchange, judged}
use Rattle.night_batches.specs.Night.{IsKnown, judgements}
use Rattle.night_definition.specs.Interchanges.{text_of}
use Rattle.night_definition.specs.Setup.{Setup, Judged, judged_after}
use Rattle.night_definition.specs.Answers.{Answered, answered}
use Rattle.night_definition.specs.Night.{answered_text}
use Rattle.night_equal_text.specs.LookedUp.{seen_setup}
use Rattle.night_equal_text.specs.Answered.{ChecksAreOne}
use Rattle.night_equal_text.specs.Laws.{AnswersFollow, InterchangesAreKept, NightsAreSettled, SetsAreParts}
use Rattle.night_equal_writing.specs.Answers.{AnswersAreOne, IsAnswered}
use Rattle.night_equal_writing.specs.Deliveries.{IsPlain, all_sent, open_sets}
use Rattle.night_equal_writing.specs.Report.{IsTold}
use Rattle.night_equal_night.proofs.Interchanges.{IsReady, is_told, is_answered}
use Rattle.night_equal_night.proofs.Pairs.{zip_map, zip_both}
use Rattle.night_equal_night.proofs.Plain.{delivered_plain}
use Rattle.night_equal_night.proofs.Ready.{ready}
use Rattle.night_equal_night.proofs.Seen.{Seen, all_seen}

-- what is known of a text and of its answers
pub record TextLaws : Type 0 where
  pub keeps : InterchangesAreKept
  pub settle : NightsAreSettled
  pub parts : SetsAreParts
  pub follow : AnswersFollow
  pub checks : ChecksAreOne
  pub answers : AnswersAreOne

module _ (laws : TextLaws) (text : List ℕ) (setup : SetupValue) (known : List CheckedInterchange) (outside : ℕ)
    (is : IsKnown text setup known outside) where
  abbrev now : Setup
  now = seen_setup setup

  abbrev ks : List Judged
  ks = judged_after now [] (text_of text).interchanges

  abbrev xs : List Answered
  xs = answered_text text now

  known_ready : AllZip (IsReady text setup) known ks
  known_ready = ready text setup laws.settle laws.parts is.index known is.read is.answered

  pub known_answers : AllZip IsAnswered known xs
  known_answers =
      zip_map (IsReady text setup) IsAnswered (answered now)
      (λ c j r. is_answered laws.keeps laws.follow laws.checks laws.answers text setup c j r) known ks known_ready

  pub known_told : AllZip IsTold (judgements text known) xs
  known_told =
      zip_both (λ c x. IsTold (judged text c) x) IsTold (judged text) (λ c x r. r) known xs
      (zip_map (IsReady text setup) (λ c x. IsTold (judged text c) x) (answered now)
      (λ c j r. is_told laws.keeps laws.follow laws.checks laws.answers text setup c j r) known ks known_ready)

  pub known_seen : AllZip Seen (open_sets (judgements text known)) (all_sent xs)
  known_seen = all_seen (judgements text known) xs known_told

pub known_plain : (text : List ℕ) (setup : SetupValue) (known : List CheckedInterchange) (outside : ℕ)
    → IsKnown text setup known outside → (place : ℕ) → All IsPlain (delivered_to setup place (judgements text known))
known_plain text setup known outside is place = delivered_plain text setup is.index known is.read is.answered place
