-- The words of clauses of x12_segs: what its definitions are called, in one place.
pub use Rattle.x12_segs.specs.Kinds.{may_stand_in_set, kind_by_id, kind_of}
pub use Rattle.x12_segs.specs.Letters.{begins_as_control, is_control_letter}
pub use Rattle.x12_segs.specs.Parts.{parts, parts_by, parts_left}
pub use Rattle.x12_segs.specs.Runs.{RunsStandAlone, StandsAlone, end_of, moved_by, start_offset}
pub use Rattle.x12_segs.specs.Scan.{IsNextPart, LiesIn}
pub use Rattle.x12_segs.specs.Segs.{Seg, Segs, part_at, rest_from, rest_of, seg_at, segs_from, segs_of, segs_within, without_line_ends}
pub use Rattle.x12_segs.specs.Spans.{IsSetSpan, span_segs, span_views, trailer_kinds}
pub use Rattle.x12_segs.specs.View.{SegValue, component_of, components, element_of, elements_of, id_of}
pub use Rattle.x12_segs.specs.View.{occurrence_of, occurrences, part_or_empty, view_of, views}
