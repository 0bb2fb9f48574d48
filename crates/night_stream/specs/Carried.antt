-- Private. What is carried of a night from batch to batch of its stream.
use Rattle.std.specs.Prelude.{◌≡◌, ℕ, ◌≤◌, List, ◌++◌, length}
use Rattle.env_index.specs.Words.{IndexValue, IsIndex, with_faults}
use Rattle.partner_setup.specs.Setup.{SetupValue}
use Rattle.set_answers.specs.CheckedText.{AreAcknowledgments, CheckedInterchange}
use Rattle.number_register.specs.SeenNumbers.{HaveSeen}
use Rattle.set_answers.specs.Settled.{faults_with, kept_keys}
use Rattle.night_batches.specs.Writing.{IsBatchWritten, WritingValue}
use Rattle.night_stream.specs.declared.carried.Carried.{Carried}

-- after this many bytes it can continue: no more interchanges and no more bytes outside than these
pub record CanGoOn (setup : SetupValue) (at : List ℕ) (base : ℕ) (w : WritingValue) : Type 0 where
  pub before : List CheckedInterchange
  pub files : AreAcknowledgments setup at before w.files
  pub count : w.told.count ≡ length before
  pub boxes : length w.boxes ≡ length setup.partners
  pub few : length before ≤ base
  pub outside : w.outside ≤ base

-- a batch was worked on: its index, settled by the numbers seen so far, is written, and its numbers are seen
pub record HasWorked (batch : List ℕ) (setup : SetupValue) (at : List ℕ) (base : ℕ) (old new : Carried) : Type 0 where
  pub index : IndexValue
  pub read : IsIndex batch index
  pub written : (numbers : List (List ℕ)) → HaveSeen old.numbers numbers → IsBatchWritten batch setup at base
      (with_faults index.entries (faults_with setup numbers index.entries)) index.outside old.writing new.writing
  pub seen : (numbers : List (List ℕ)) → HaveSeen old.numbers numbers → HaveSeen new.numbers (numbers ++ kept_keys setup index.entries)
