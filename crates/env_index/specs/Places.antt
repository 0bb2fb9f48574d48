-- X12.6, segment: what is at a place of the text (for the models of the types and for inner clauses; no public clause cites it).
use Rattle.std.specs.Prelude.{ℕ, List, map, option_map, slice_range, Bool, true, false, Option, Some, None}
use Rattle.x12_bytes.specs.declared.delims.Delims.{Delims}
use Rattle.x12_segs.specs.Words.{SegValue}
use Rattle.env_index.specs.declared.entry.SetEnvelope.{SetEnvelope}
use Rattle.env_index.specs.declared.places.Stretch.{Stretch}
use Rattle.env_index.specs.declared.places.SetPlace.{SetPlace}
use Rattle.env_index.specs.declared.places.GroupPlace.{GroupPlace}
use Rattle.env_index.specs.declared.places.BodyPlace.{BodyPlace}
use Rattle.env_index.specs.Extents.{behind}
use Rattle.env_index.specs.Summary.{GroupEntry, Summary}

abbrev pub seg_in : List ℕ → Delims → Stretch → SegValue
seg_in text delims place = record { start = place.start; bytes = slice_range text place.start place.end; delims = delims }

-- the last segment of a set is its SE where it is closed
abbrev pub trailer_in : Bool → SegValue → Option SegValue
trailer_in true last = Some last
trailer_in false last = None

abbrev pub set_in : List ℕ → Delims → SetPlace → SetEnvelope
set_in text delims place = record {
  header = seg_in text delims place.header;
  segments = place.segments;
  trailer = trailer_in place.closed (seg_in text delims place.last);
  end = behind (seg_in text delims place.last);
}

abbrev pub group_in : List ℕ → Delims → GroupPlace → GroupEntry
group_in text delims place = record {
  header = seg_in text delims place.header;
  sets = map (set_in text delims) place.sets.items;
  trailer = option_map (seg_in text delims) place.trailer;
}

abbrev pub body_in : List ℕ → Delims → BodyPlace → Summary
body_in text delims place = record {
  groups = map (group_in text delims) place.groups.items;
  ta1s = place.ta1s;
  misplaced = place.misplaced;
  trailer = option_map (seg_in text delims) place.trailer;
}
