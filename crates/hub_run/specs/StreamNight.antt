-- The night of a stream (own): that of the bytes that were read, which are those that the reader declared, where it declared them.
use Rattle.std.specs.Prelude.{◌≡◌, ℕ, ◌≤◌, List, length, Option, IfSome}
use Rattle.hub_kinds.specs.declared.limits.TheConstants.{LONGEST_TEXT}
use Rattle.partner_setup.specs.Setup.{SetupValue}
use Rattle.night_batches.specs.declared.night.Night.{Night}
use Rattle.night_definition.specs.ReadBack as defined
use Rattle.night_equal_text.specs.LookedUp.{seen_setup}
use Rattle.night_equal_read.specs.Read.{seen_night}

-- no more bytes than the limit, and their night, by the definition
pub record IsNightRead (told : Option (List ℕ)) (setup : SetupValue) (at : List ℕ) (night : Night) : Type 0 where
  pub text : List ℕ
  pub told_all : IfSome told (λ xs. xs ≡ text)
  pub few : length text ≤ LONGEST_TEXT
  pub definition : defined.IsNight text (seen_setup setup) at (seen_night night)
