-- A night is whole: what is reported and read of it follows from what it is.
use Rattle.std.proofs.Common.{ℕ, List}
use Rattle.moment.specs.Moment.{IsMoment}
use Rattle.partner_setup.specs.Setup.{SetupValue}
use Rattle.partner_setup.specs.Sound.{IsSoundSetup}
use Rattle.night_batches.specs.Night.{IsNight}
use Rattle.night_batches.specs.declared.night.Night.{Night}
use Rattle.night_law.specs.WholeNight.{IsWholeNight}
use Rattle.night_law.proofs.Delivered.{boxes_read_by_night}
use Rattle.night_law.proofs.ReadingNights.{read_by_night, ta1s_read_by_night}
use Rattle.night_law.proofs.TellingNights.{told_by_night}

pub whole_night : (text : List ℕ) (setup : SetupValue) (at : List ℕ) (night : Night) → IsSoundSetup setup → IsMoment at
    → IsNight text setup at night → IsWholeNight text setup at night
whole_night text setup at night sound moment is = record {
  is_night = is;
  sets_told = told_by_night text setup at night is;
  sets_read = read_by_night text setup at night sound moment is;
  ta1s_read = ta1s_read_by_night text setup at night sound moment is;
  boxes_read = boxes_read_by_night text setup at night sound moment is;
}
