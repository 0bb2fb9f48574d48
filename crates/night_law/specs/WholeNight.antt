-- X12.5, interchange; X12.6, functional group and transaction set; 999 guide (005010X231): the complete night of a text, by a setup and at
-- a moment, with what is reported and read of it. Each run promises this record, and so does the program.
use Rattle.std.specs.Prelude.{ℕ, List}
use Rattle.partner_setup.specs.Setup.{SetupValue}
use Rattle.night_batches.specs.Night.{IsNight}
use Rattle.night_batches.specs.declared.night.Night.{Night}
use Rattle.night_law.specs.ReadBack.{AreReadBack}
use Rattle.night_law.specs.SetsRead.{AreBoxesRead}
use Rattle.night_law.specs.Ta1sRead.{AreTa1sReadBack}
use Rattle.night_law.specs.Told.{AreSetsTold}

-- it is the night; its acknowledgments report each set, with A as IK501 exactly where the set meets its guide; a partner whose guides can
-- be quoted reads in its own a response to each of its sets, and a TA1 for each of its interchanges that is answered; in its mailbox each
-- partner finds just the sets that are delivered to it
pub record IsWholeNight (text : List ℕ) (setup : SetupValue) (at : List ℕ) (night : Night) : Type 0 where
  pub is_night : IsNight text setup at night
  pub sets_told : AreSetsTold text setup at night.acks
  pub sets_read : AreReadBack text setup night.acks
  pub ta1s_read : AreTa1sReadBack text setup night.acks
  pub boxes_read : AreBoxesRead text setup night.boxes
