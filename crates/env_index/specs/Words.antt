-- The words of clauses of env_index: what its definitions are called, in one place.
pub use Rattle.env_index.specs.Ends.{EndsLeast, IsLeastEnd, MayEnd}
pub use Rattle.env_index.specs.Envelope.{AGroup, ASet, ATa1, AreBodyMembers, AreMembers, Body, Closed, DerivesInterchange, Group, InBody}
pub use Rattle.env_index.specs.Envelope.{InGroup}
pub use Rattle.env_index.specs.Envelope.{IsBody, IsGroup, IsSet, MayFollow, OutOfBody, OutOfGroup, Set, body_items, ends_group, ends_set}
pub use Rattle.env_index.specs.Envelope.{group_items, in_body_items, in_group_items, is_out_of_body, is_out_of_group, option_items}
pub use Rattle.env_index.specs.Envelope.{set_items}
pub use Rattle.env_index.specs.Extents.{Chain, ChainFrom, Extent, IsNextHead, Reach, behind, behind_last, count_outside, ends_interchange}
pub use Rattle.env_index.specs.Extents.{is_filler, onto_reach, reach_at, reach_from, reach_of}
pub use Rattle.env_index.specs.Faults.{control_number, counts_groups, fault_by, fault_of, fault_of_headers, fault_with, has_control}
pub use Rattle.env_index.specs.Faults.{has_set_headers, is_group_header, is_set_header, writes_number}
pub use Rattle.env_index.specs.GroupElements.{group_elements}
pub use Rattle.env_index.specs.Index.{IndexEntry, IndexValue, IsEntryOf, IsIndex, IsNextIn, IsReadIn, extent_of, extents_of}
pub use Rattle.env_index.specs.IndexPlaces.{PlacesAreIndexPlaces, fault_or_unknown, faults_to_eight, interchanges_of}
pub use Rattle.env_index.specs.Interchange.{InterchangeEntry, interchange_of}
pub use Rattle.env_index.specs.Known.{AreMarks, AreNext, IsDivided, no_mark}
pub use Rattle.env_index.specs.Lone.{IsLone}
pub use Rattle.env_index.specs.Mapped.{EndsWithTrailer, KeepsKinds, MapsTrees, MapsTreesBack, map_body, map_group, map_in_body}
pub use Rattle.env_index.specs.Mapped.{map_in_group, map_set}
pub use Rattle.env_index.specs.Numbers.{IsEarlier, IsFirstUse, Number, Numbered, OfGroup, OfInterchange, OfSet, group_numbers_from}
pub use Rattle.env_index.specs.Numbers.{index_places}
pub use Rattle.env_index.specs.Numbers.{interchange_number, interchange_places, is_before, is_indexed, kept_places, place_at, places_from}
pub use Rattle.env_index.specs.Numbers.{set_numbers_from}
pub use Rattle.env_index.specs.Placed.{AreFew, place_in, places_behind, places_of}
pub use Rattle.env_index.specs.Places.{body_in, group_in, seg_in, set_in, trailer_in}
pub use Rattle.env_index.specs.Reading.{State, end_all, end_group, end_set, end_so_far, finished, misplace, nothing_read, state_of, step}
pub use Rattle.env_index.specs.Settled.{settled, with_fault, with_faults}
pub use Rattle.env_index.specs.Source.{GoesOnBehind, TakesPart, reach_over}
pub use Rattle.env_index.specs.Spans.{EachSet, EachSetIn, HasSpans, SetStandsAlone, span_of}
pub use Rattle.env_index.specs.Summary.{GroupEntry, Summary, group_entry, groups_in, has_misplaced_in_group, set_entry, sets_in}
pub use Rattle.env_index.specs.Summary.{summary_of}
pub use Rattle.env_index.specs.Unjudged.{IsUnjudged, IsUnjudgedEntry, JudgedIs, JudgedIsIndex, faults_of}
