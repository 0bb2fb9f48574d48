-- X12.5, interchange, and X12.6, functional group and transaction set: a text as it is read after other bytes.
use Rattle.std.specs.Prelude.{ℕ, ◌+◌, ◌++◌, map, option_map}
use Rattle.night_definition.specs.Segments.{Segment}
use Rattle.night_definition.specs.Envelopes.{Set, Group, Read}
use Rattle.night_definition.specs.Interchanges.{Interchange, Text}

-- a segment, `by` bytes further on
abbrev pub moved_segment : (by : ℕ) → Segment → Segment
moved_segment by s = record { start = by + s.start; end = by + s.end; elements = s.elements }

abbrev pub moved_set : (by : ℕ) → Set → Set
moved_set by s = record {
  header = moved_segment by s.header;
  inner = map (moved_segment by) s.inner;
  trailer = option_map (moved_segment by) s.trailer;
}

abbrev pub moved_group : (by : ℕ) → Group → Group
moved_group by g = record {
  header = moved_segment by g.header;
  sets = map (moved_set by) g.sets;
  trailer = option_map (moved_segment by) g.trailer;
}

abbrev pub moved_content : (by : ℕ) → Read → Read
moved_content by r = record {
  inner = map (moved_segment by) r.inner;
  se = option_map (moved_segment by) r.se;
  sets = map (moved_set by) r.sets;
  ge = option_map (moved_segment by) r.ge;
  groups = map (moved_group by) r.groups;
  ta1s = r.ta1s;
  misplaced = r.misplaced;
  iea = option_map (moved_segment by) r.iea;
}

abbrev pub moved_interchange : (by : ℕ) → Interchange → Interchange
moved_interchange by x = record {
  header = x.header;
  delims = x.delims;
  start = by + x.start;
  end = by + x.end;
  content = moved_content by x.content;
}

-- the interchanges of a text, `by` bytes further on, and as many bytes outside
abbrev pub moved : (by : ℕ) → Text → Text
moved by t = record { interchanges = map (moved_interchange by) t.interchanges; outside = t.outside }

-- the interchanges of text `a`, then those of text `b`, and the bytes outside of both
abbrev pub in_a_row : Text → Text → Text
in_a_row a b = record { interchanges = a.interchanges ++ b.interchanges; outside = a.outside + b.outside }
