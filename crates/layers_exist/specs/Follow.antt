-- What the definition gives for a text is what the layers give, and the other way round.
use Rattle.std.specs.Prelude.{◌↔◌, ℕ, List}
use Rattle.moment.specs.Moment.{IsMoment}
use Rattle.partner_setup.specs.Setup.{SetupValue}
use Rattle.partner_setup.specs.Sound.{IsSoundSetup}
use Rattle.night_batches.specs.Night.{IsNight}
use Rattle.night_batches.specs.declared.night.Night.{Night}
use Rattle.night_law.specs.WholeNight.{IsWholeNight}
use Rattle.night_definition.specs.Night.{night_of}
use Rattle.night_definition.specs.ReadBack as defined
use Rattle.night_equal_text.specs.LookedUp.{seen_setup}
use Rattle.night_equal_night.specs.Night.{IsThatNight}
use Rattle.night_equal_read.specs.Read.{seen_night}
use Rattle.accepted_guides.specs.Accepted.{AreGuidesAccepted}

-- the files of the definition's night are a night of the layers
abbrev pub LayersFollow : Type 0
LayersFollow = (text : List ℕ) (setup : SetupValue) (at : List ℕ) (night : Night) → IsSoundSetup setup → AreGuidesAccepted setup
    → IsThatNight night (night_of text (seen_setup setup) at) → IsNight text setup at night

-- a night with what partners read in it is one of the layers exactly if it is one of the definition
abbrev pub NightsAreTheDefinitions : Type 0
NightsAreTheDefinitions = (text : List ℕ) (setup : SetupValue) (at : List ℕ) (night : Night) → IsSoundSetup setup
    → AreGuidesAccepted setup → IsMoment at
    → IsWholeNight text setup at night ↔ defined.IsNight text (seen_setup setup) at (seen_night night)
