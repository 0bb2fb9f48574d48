-- Partners read the files of a night as the definition says.
use Rattle.std.proofs.Common.{◌≡◌, ℕ, List, [], map, length, Some, sym, ap, subst, ◌∙◌}
use Rattle.std.specs.Prelude.{filter_map, slice_get}
use Rattle.std.specs.List.{All, AllZip, flat_map}
use Rattle.hub_kinds.specs.declared.counters.Counters.{Counters}
use Rattle.moment.specs.Moment.{IsMoment}
use Rattle.env_index.specs.Words.{IndexEntry, IndexValue, settled}
use Rattle.partner_setup.specs.declared.partner.Partner.{Partner}
use Rattle.partner_setup.specs.Setup.{SetupValue}
use Rattle.partner_setup.specs.Sound.{IsSoundPartner, IsSoundSetup}
use Rattle.set_answers.specs.CheckedText.{CheckedInterchange, acknowledged_to, acknowledgment_of}
use Rattle.set_answers.specs.Settled.{settled_faults}
use Rattle.night_batches.specs.Night.{IsNight}
use Rattle.night_batches.specs.declared.night.Night as layer
use Rattle.night_law.specs.Quotable.{AreAllQuotable, IsGuidePlain}
use Rattle.night_law.proofs.ForAbove.{IsRead, all_read, at_index, settled_headers, settled_sound}
use Rattle.night_definition.specs.Segments.{Elements}
use Rattle.night_definition.specs.Answers.{Answered}
use Rattle.night_definition.specs.Acknowledgments as room
use Rattle.night_definition.specs.Night.{Night, answered_text, night_of}
use Rattle.night_definition.specs.ReadBack.{AreReferencesPlain, Response, responses_after, segments_in}
use Rattle.night_equal_text.specs.LookedUp.{seen_setup}
use Rattle.night_equal_writing.specs.Answers.{AnswersAreOne, IsAnswered}
use Rattle.night_equal_writing.specs.Codes.{CodesAreOne}
use Rattle.night_equal_night.specs.Night.{IsThatNight, NightsAreOne}
use Rattle.night_equal_read.specs.Known.{KnownTextsAreOne}
use Rattle.night_equal_read.specs.Read.{BoxesAreRead, ResponsesAreRead, Ta1sAreRead, VerdictsAreTrue, WholeNightsAreOne, seen_night}
use Rattle.night_equal_read.proofs.Enveloped.{acknowledgments_read, responses_to, ta1s_to}
use Rattle.night_equal_read.proofs.Quoting.{all_quoted}
use Rattle.night_equal_read.proofs.Reading.{IsAck, responses_read, ta1s_in, ta1s_read}
use Rattle.night_equal_read.proofs.References.{guides_plain}
use Rattle.night_equal_read.proofs.Reported.{read_of, reported_in, responses_are, ta1_of, ta1s_are}

-- a reference number of letters and digits can be quoted
abbrev pub ArePlainQuoted : Type 0
ArePlainQuoted = (text : List ℕ) (setup : SetupValue) → IsSoundSetup setup → All IsGuidePlain setup.guides → AreAllQuotable text setup

module _ (knows : KnownTextsAreOne) (answers : AnswersAreOne) (codes_one : CodesAreOne) (quoted : ArePlainQuoted) (text : List ℕ)
    (setup : SetupValue) (at : List ℕ) (night : layer.Night) (sound : IsSoundSetup setup) (moment : IsMoment at)
    (is : IsNight text setup at night) (plain : AreReferencesPlain (seen_setup setup)) (n : ℕ) (p : Partner) (ack : List ℕ)
    (at_p : slice_get setup.partners n ≡ Some p) (at_ack : slice_get night.acks n ≡ Some ack) where
  abbrev index : IndexValue
  index = is.is_known.index

  abbrev entries : List IndexEntry
  entries = (settled index (settled_faults setup index.entries)).entries

  abbrev here : List CheckedInterchange
  here = acknowledged_to n is.known

  abbrev xs : List Answered
  xs = answered_text text (seen_setup setup)

  abbrev rs : List Response
  rs = flat_map (λ c. responses_to (acknowledgment_of c)) here

  abbrev ts : List Elements
  ts = flat_map (λ c. ta1s_to (acknowledgment_of c)) here

  read : All (IsRead text) entries
  read =
      all_read text entries (settled_headers text index (settled_faults setup index.entries) is.is_known.read)
      (settled_sound text setup index is.is_known.read)

  own : IsSoundPartner (length setup.guides) p
  own = at_index (IsSoundPartner (length setup.guides)) setup.partners n p at_p sound.partners

  file : IsAck p.delims ack rs ts
  file =
      subst (λ (t : List ℕ). IsAck p.delims t rs ts) (sym (is.is.acks.each n p ack at_p at_ack))
      (acknowledgments_read setup at moment p (length setup.guides) sound.hub own 0 0 here
      (all_quoted text setup at moment n p (length setup.guides) sound.hub own entries is.known read is.is_known.answered
      (quoted text setup sound (guides_plain setup.guides plain) index n p is.is_known.read at_p)))

  zip : AllZip IsAnswered here (room.acknowledged_to n xs)
  zip = answers.to n is.known xs (knows text setup is.known is.outside is.is_known).answers

  pub responses : responses_after [] (segments_in p.delims ack) ≡ map read_of (flat_map reported_in (room.acknowledged_to n xs))
  responses =
      responses_read p.delims ack rs ts own.divides.apart file ∙ responses_are codes_one here (room.acknowledged_to n xs) zip

  pub ta1s : ta1s_in (segments_in p.delims ack) ≡ filter_map ta1_of (room.acknowledged_to n xs)
  ta1s = ta1s_read p.delims ack rs ts own.divides.apart file ∙ ta1s_are codes_one here (room.acknowledged_to n xs) zip

abbrev night_made : List (List ℕ) → List (List ℕ) → List ℕ → List Counters → Night
night_made acks boxes report next = record { acks = acks; boxes = boxes; report = report; next = next }

same_night : (night : layer.Night) (other : Night) → IsThatNight night other → seen_night night ≡ other
same_night night other is =
    ap (λ a. night_made a night.boxes night.report night.next) is.acks
    ∙ ap (λ b. night_made other.acks b night.report night.next) is.boxes
    ∙ ap (λ r. night_made other.acks other.boxes r night.next) is.report
    ∙ ap (night_made other.acks other.boxes other.report) is.next

pub whole : NightsAreOne → VerdictsAreTrue → ResponsesAreRead → Ta1sAreRead → BoxesAreRead → WholeNightsAreOne
whole nights verdicts responses_are_read ta1s_are_read boxes text setup at night sound moment is = record {
  is = same_night night (night_of text (seen_setup setup) at) (nights text setup at night sound is.is_night);
  verdicts = verdicts text setup is.is_night.known is.is_night.outside is.is_night.is_known;
  responses = responses_are_read text setup at night sound moment is.is_night;
  ta1s = ta1s_are_read text setup at night sound moment is.is_night;
  boxes = boxes text setup night.boxes is.boxes_read;
}
