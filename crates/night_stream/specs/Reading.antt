-- Own: how far a stream is worked on, and its night.
use Rattle.std.specs.Prelude.{◌≡◌, ℕ, ◌≤◌, List, ◌++◌, length, drop, Option, IfSome}
use Rattle.std.specs.Io.KnownBytes.{Consumes}
use Rattle.hub_kinds.specs.declared.limits.TheConstants.{LONGEST_TEXT}
use Rattle.partner_setup.specs.Setup.{SetupValue}
use Rattle.night_batches.specs.Night.{IsNight}
use Rattle.night_batches.specs.declared.night.Night.{Night}
use Rattle.number_register.specs.SeenNumbers.{HaveSeen}
use Rattle.set_answers.specs.Settled.{kept_keys}
use Rattle.whole_interchanges.specs.Scouting.{Stands}
use Rattle.night_stream.specs.UpTo.{IsNightUpTo, NightSoFar}
use Rattle.stream_read.specs.Held.{HeldValue}
use Rattle.night_stream.specs.declared.stream.Reading.{Reading}

-- what was read, up to where it is worked on, and what is there: whatever follows, it is the night up to there
pub record IsReadUpTo (setup : SetupValue) (at : List ℕ) (first now : Option (List ℕ)) (held : HeldValue) (r : Reading) : Type 0 where
  pub text : List ℕ
  pub consumed : Consumes first now text
  pub within : r.base ≤ length text
  pub bytes : held.bytes ≡ drop r.base text
  pub total : held.total ≡ length text
  pub night : NightSoFar
  pub writing : r.carried.writing ≡ night.writing
  pub numbers : HaveSeen r.carried.numbers (kept_keys setup night.entries)
  pub up_to : (more : List ℕ) → IsNightUpTo (text ++ more) setup at r.base night
  pub stands : Stands held.bytes r.scout.at r.scout.inside
  pub start : r.scout.at ≡ 0

-- the night of the bytes that were read, which are those that the reader declared, where it declared them; they are no more than the limit
pub record IsNightOfStream (told : Option (List ℕ)) (setup : SetupValue) (at : List ℕ) (night : Night) : Type 0 where
  pub text : List ℕ
  pub told_all : IfSome told (λ xs. xs ≡ text)
  pub few : length text ≤ LONGEST_TEXT
  pub is : IsNight text setup at night
