-- The night of the layers is the night of the definition.
use Rattle.std.specs.Prelude.{◌≡◌, ℕ, List}
use Rattle.partner_setup.specs.Setup.{SetupValue}
use Rattle.partner_setup.specs.Sound.{IsSoundSetup}
use Rattle.night_batches.specs.Night.{IsNight}
use Rattle.night_batches.specs.declared.night.Night as then
use Rattle.night_definition.specs.Night.{Night, night_of}
use Rattle.night_equal_text.specs.LookedUp.{seen_setup}

-- acknowledgments, mailboxes and next counters, partner by partner, and the report
pub record IsThatNight (night : then.Night) (is : Night) : Type 0 where
  pub acks : night.acks ≡ is.acks
  pub boxes : night.boxes ≡ is.boxes
  pub report : night.report ≡ is.report
  pub next : night.next ≡ is.next

-- whatever the moment; the setups that are built are sound
abbrev pub NightsAreOne : Type 0
NightsAreOne = (text : List ℕ) (setup : SetupValue) (at : List ℕ) (night : then.Night) → IsSoundSetup setup → IsNight text setup at night
    → IsThatNight night (night_of text (seen_setup setup) at)
