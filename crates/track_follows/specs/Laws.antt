-- The definition's table is a table of the layers.
use Rattle.std.specs.Prelude.{ℕ, List}
use Rattle.accepted_guides.specs.Accepted.{AreGuidesAccepted}
use Rattle.partner_setup.specs.Setup.{SetupValue}
use Rattle.set_documents.specs.Documents.{DocumentValue}
use Rattle.track_table.specs.Track.{IsTrack}
use Rattle.track_table.specs.declared.track.Track.{Track}
use Rattle.track_equal.specs.Table.{IsTableOf}

-- of each text, by a setup of accepted guides, whatever elements are shown
abbrev pub TablesAreTracks : Type 0
TablesAreTracks = (text : List ℕ) (setup : SetupValue) (documents : List DocumentValue) (track : Track) → AreGuidesAccepted setup
    → IsTableOf text setup documents track → IsTrack text setup documents track
