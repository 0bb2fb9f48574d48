-- A table of the definition is one of the layers.
use Rattle.std.proofs.Common.{ℕ, List, [], sym, ◌∙◌}
use Rattle.accepted_guides.specs.Accepted.{AreGuidesAccepted}
use Rattle.partner_setup.specs.Setup.{SetupValue}
use Rattle.set_documents.specs.Documents.{DocumentValue}
use Rattle.night_batches.specs.Night.{IsNight}
use Rattle.night_batches.specs.declared.night.Night.{Night}
use Rattle.track_table.specs.Track.{IsTrack}
use Rattle.track_table.specs.declared.track.Track.{Track}
use Rattle.track_equal.specs.Table.{IsTableOf}
use Rattle.track_equal.proofs.ForAbove.{Laws, clean_report, table_is}
use Rattle.layers_exist.specs.Laws.{EachTextHasANight}
use Rattle.track_follows.specs.Laws.{TablesAreTracks}

by_night : Laws → (text : List ℕ) (setup : SetupValue) (documents : List DocumentValue) (track : Track)
    → (night : Night) × IsNight text setup [] night → IsTableOf text setup documents track → IsTrack text setup documents track
by_night laws text setup documents track (night, of) is = record {
  known = of.known;
  outside = of.outside;
  is_known = of.is_known;
  table = is.table ∙ sym (table_is laws text setup of.known of.outside of.is_known documents);
  clean = is.clean [] ∙ sym (clean_report laws text setup of.known of.outside of.is_known []);
}

pub tracks : Laws → EachTextHasANight → TablesAreTracks
tracks laws exists text setup documents track accepted is =
    by_night laws text setup documents track (exists text setup [] accepted) is
