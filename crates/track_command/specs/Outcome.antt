-- The program's results (own): the file that is put, and the status.
use Rattle.std.specs.Prelude.{◌≡◌, ◌≤◌, ℕ, if◌then◌else◌, List, [], ◌∷◌, Option, IfSome, length}
use Rattle.std.specs.Io.KnownBytes.{Appends}
use Rattle.hub_kinds.specs.declared.limits.TheConstants.{LONGEST_TEXT}
use Rattle.clap.specs.Words.{Text}
use Rattle.night_command.specs.Outbox.{AddsFiles, File}
use Rattle.night_command.specs.SetupFiles.{IsSetupAt}
use Rattle.partner_setup.specs.Setup.{SetupValue}
use Rattle.set_documents.specs.Documents.{DocumentValue}
use Rattle.track_equal.specs.Table.{IsTableOf}
use Rattle.track_table.specs.declared.track.Track.{Track}
use Rattle.program_frame.specs.Arguments.{value_in, values_in}
use Rattle.program_frame.specs.Matching.{AsksForText}
use Rattle.track_command.specs.CommandLine.{AreOptions, guide_paths, track_app}
use Rattle.track_command.specs.declared.command.Options.{Options}

-- 0 where the night is clean
abbrev pub status_of : Track → ℕ
status_of track = if track.clean then 0 else 1

-- the definition's table of the bytes that a source gave, no more than the limit, which are all that it declared, where it declared them
pub record IsTrackOfSource (told : Option (List ℕ)) (setup : SetupValue) (documents : List DocumentValue) (track : Track) : Type 0 where
  pub text : List ℕ
  pub told_all : IfSome told (λ xs. xs ≡ text)
  pub within : length text ≤ LONGEST_TEXT
  pub is : IsTableOf text setup documents track

-- a table is given: it is that of a source and a setup, it is put after what the outbox had as the file of this name, and the status is
-- the night's
pub record IsGiven (told : Option (List ℕ)) (setup : SetupValue) (documents : List DocumentValue) (name : List ℕ) (status : ℕ)
    (had has : Option (List File)) : Type 0 where
  pub track : Track
  pub by : IsTrackOfSource told setup documents track
  pub file : AddsFiles had has ((name, track.table) ∷ [])
  pub own_status : status ≡ status_of track

-- the definition's table of some text that isn't too long, by a setup that some files make which were asked for by the paths of the options
pub record IsTrackBy (options : Options) (status : ℕ) : Type 0 where
  pub setup : SetupValue
  pub made : IsSetupAt (guide_paths options) options.setup.now options.counters.now setup
  pub text : List ℕ
  pub within : length text ≤ LONGEST_TEXT
  pub track : Track
  pub is : IsTableOf text setup options.documents.items track
  pub own_status : status ≡ status_of track

-- what a run of these arguments has done that didn't fail: printed a text where they ask for one; otherwise it has put a table by the
-- options that they give, and printed nothing
pub data IsOutcome (words : List Text) (status : ℕ) (was is : Option (List ℕ)) : Type 0 where
  Shown : (asked : AsksForText track_app words) (text : List ℕ) → Appends was is text → status ≡ 0 → IsOutcome words status was is
  Tracked : (options : Options) → AreOptions (value_in track_app words) (values_in track_app words) options → IsTrackBy options status
      → was ≡ is
      → IsOutcome words status was is
