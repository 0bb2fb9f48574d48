-- What partners read in the files of a night is what the definition says.
use Rattle.std.specs.Prelude.{◌≡◌, ℕ, List, Some, slice_get}
use Rattle.moment.specs.Moment.{IsMoment}
use Rattle.partner_setup.specs.declared.partner.Partner.{Partner}
use Rattle.partner_setup.specs.Setup.{SetupValue}
use Rattle.partner_setup.specs.Sound.{IsSoundSetup}
use Rattle.set_answers.specs.CheckedText.{CheckedInterchange}
use Rattle.night_batches.specs.Night as then
use Rattle.night_batches.specs.declared.night.Night as layer
use Rattle.night_law.specs.SetsRead.{AreBoxesRead}
use Rattle.night_law.specs.WholeNight.{IsWholeNight}
use Rattle.night_definition.specs.Setup.{Setup}
use Rattle.night_definition.specs.Night.{Night, answered_text}
use Rattle.night_definition.specs.Program.{setup_of_files}
use Rattle.night_definition.specs.ReadBack.{AreReferencesPlain, AreResponses, AreTa1s, AreVerdictsTrue, IsBoxRead, IsNight}
use Rattle.night_equal_text.specs.LookedUp.{seen_setup}

-- a partner finds in its mailbox the sets that are delivered to it
abbrev pub BoxesAreRead : Type 0
BoxesAreRead = (text : List ℕ) (setup : SetupValue) (boxes : List (List ℕ)) → AreBoxesRead text setup boxes
    → (n : ℕ) (p : Partner) (box : List ℕ) → slice_get setup.partners n ≡ Some p → slice_get boxes n ≡ Some box
    → IsBoxRead (seen_setup setup) n p (answered_text text (seen_setup setup)) box

-- in its acknowledgments the responses to its sets, and its TA1s, if the reference numbers of guides are letters and digits
abbrev pub ResponsesAreRead : Type 0
ResponsesAreRead = (text : List ℕ) (setup : SetupValue) (at : List ℕ) (night : layer.Night) → IsSoundSetup setup → IsMoment at
    → then.IsNight text setup at night → AreReferencesPlain (seen_setup setup) → (n : ℕ) (p : Partner) (ack : List ℕ)
    → slice_get setup.partners n ≡ Some p → slice_get night.acks n ≡ Some ack
    → AreResponses n p (answered_text text (seen_setup setup)) ack

abbrev pub Ta1sAreRead : Type 0
Ta1sAreRead = (text : List ℕ) (setup : SetupValue) (at : List ℕ) (night : layer.Night) → IsSoundSetup setup → IsMoment at
    → then.IsNight text setup at night → AreReferencesPlain (seen_setup setup) → (n : ℕ) (p : Partner) (ack : List ℕ)
    → slice_get setup.partners n ≡ Some p → slice_get night.acks n ≡ Some ack
    → AreTa1s n p (answered_text text (seen_setup setup)) ack

-- those that guide files give are digits, or empty
abbrev pub FileReferencesArePlain : Type 0
FileReferencesArePlain = (setup counters : List ℕ) (guides : List (List ℕ)) (s : Setup) → setup_of_files setup counters guides ≡ Some s
    → AreReferencesPlain s

-- the verdict on a set is A exactly if it meets its guide
abbrev pub VerdictsAreTrue : Type 0
VerdictsAreTrue = (text : List ℕ) (setup : SetupValue) (known : List CheckedInterchange) (outside : ℕ)
    → then.IsKnown text setup known outside → AreVerdictsTrue text (seen_setup setup)

-- the night of the layers, as the definition has it
abbrev pub seen_night : layer.Night → Night
seen_night n = record { acks = n.acks; boxes = n.boxes; report = n.report; next = n.next }

-- each night that a run promises is a night of the definition, with what partners read
abbrev pub WholeNightsAreOne : Type 0
WholeNightsAreOne = (text : List ℕ) (setup : SetupValue) (at : List ℕ) (night : layer.Night) → IsSoundSetup setup → IsMoment at
    → IsWholeNight text setup at night → IsNight text (seen_setup setup) at (seen_night night)
