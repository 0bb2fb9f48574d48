-- The table of where each set of a night is, by the definition.
use Rattle.std.specs.Prelude.{◌≡◌, List, ℕ}
use Rattle.partner_setup.specs.Setup.{SetupValue}
use Rattle.set_documents.specs.Documents.{DocumentValue}
use Rattle.track_table.specs.Track.{IsTrack}
use Rattle.track_table.specs.declared.track.Track.{Track}
use Rattle.night_definition.specs.Night.{night_of}
use Rattle.night_definition.specs.SetupFile.{is_clean}
use Rattle.night_equal_text.specs.LookedUp.{seen_setup}
use Rattle.track_definition.specs.Rows.{table_of}

-- the table is the definition's, and it is said whether the report of the night is clean, which no moment changes
pub record IsTableOf (text : List ℕ) (setup : SetupValue) (documents : List DocumentValue) (track : Track) : Type 0 where
  pub table : track.table ≡ table_of text (seen_setup setup) documents
  pub clean : (at : List ℕ) → track.clean ≡ is_clean (night_of text (seen_setup setup) at).report

-- a table of the layers is that of the definition
abbrev pub TracksAreOne : Type 0
TracksAreOne = (text : List ℕ) (setup : SetupValue) (documents : List DocumentValue) (track : Track) → IsTrack text setup documents track
    → IsTableOf text setup documents track
