-- What a night gives (own), up to an offset of its text at which no interchange is open.
use Rattle.std.specs.Prelude.{◌≡◌, ℕ, List, [], ◌++◌, map}
use Rattle.std.specs.List.{All}
use Rattle.env_index.specs.Words.{HasSpans, IndexEntry, IndexValue, IsIndex, with_faults}
use Rattle.partner_setup.specs.Setup.{SetupValue}
use Rattle.set_answers.specs.CheckedText.{AreCheckedAs, CheckedInterchange}
use Rattle.set_answers.specs.Settled.{faults_with, kept_keys, settled_entries}
use Rattle.whole_interchanges.specs.Moved.{IsIndexUpTo, moved_entry}
use Rattle.night_stream.specs.MovedAnswers.{moved_answered}
use Rattle.night_batches.specs.Writing.{IsBatchWritten, IsWrittenOf, WritingValue, nothing_written}

-- what is carried from batch to batch. The entries and the answers are named by contracts alone: of them the code keeps their number
-- and the numbers of the interchanges that are kept
pub record NightSoFar : Type 0 where
  pub entries : List IndexEntry
  pub known : List CheckedInterchange
  pub writing : WritingValue

abbrev pub none_yet : SetupValue → NightSoFar
none_yet setup = record { entries = []; known = []; writing = nothing_written setup }

pub record IsNightUpTo (text : List ℕ) (setup : SetupValue) (at : List ℕ) (to : ℕ) (n : NightSoFar) : Type 0 where
  pub index : IsIndexUpTo text to n.entries n.writing.outside
  pub answered : AreCheckedAs text setup (settled_entries setup n.entries) n.known
  pub written : IsWrittenOf text setup at n.known n.writing

-- a batch was written after the old, settled by the numbers seen so far
abbrev pub IsBatchOf : (batch : List ℕ) → SetupValue → (at : List ℕ) → (base : ℕ) → (old : NightSoFar) → IndexValue → WritingValue → Type 0
IsBatchOf batch setup at base old index new = IsBatchWritten batch setup at base
    (with_faults index.entries (faults_with setup (kept_keys setup old.entries) index.entries)) index.outside old.writing new

-- what is carried after it
abbrev pub behind_batch : (base : ℕ) → NightSoFar → IndexValue → List CheckedInterchange → WritingValue → NightSoFar
behind_batch base old index known w = record {
  entries = old.entries ++ map (moved_entry base) index.entries;
  known = old.known ++ map (moved_answered base) known;
  writing = w;
}

-- a batch was worked on, read as a separate text that begins at an offset of the whole one
pub record IsBatchDone (batch : List ℕ) (setup : SetupValue) (at : List ℕ) (base : ℕ) (old new : NightSoFar) : Type 0 where
  pub index : IndexValue
  pub read : IsIndex batch index
  pub written : IsBatchOf batch setup at base old index new.writing
  pub spans : All (λ x. HasSpans batch x.entry.interchange) written.known
  pub entries : new.entries ≡ old.entries ++ map (moved_entry base) index.entries
  pub all_known : new.known ≡ old.known ++ map (moved_answered base) written.known

-- the night of the whole text: its index, what is answered, and what is written
pub record IsWhole (text : List ℕ) (setup : SetupValue) (at : List ℕ) (n : NightSoFar) : Type 0 where
  pub index : IndexValue
  pub read : IsIndex text index
  pub counted : n.writing.outside ≡ index.outside
  pub answered : AreCheckedAs text setup (settled_entries setup index.entries) n.known
  pub written : IsWrittenOf text setup at n.known n.writing
