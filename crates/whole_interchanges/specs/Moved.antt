-- X12.5, interchange, and X12.6, functional group and transaction set: the same envelopes where that many bytes are before the text.
use Rattle.std.specs.Prelude.{◌≡◌, ℕ, ◌+◌, not, List, [], ◌∷◌, map, option_map, count_by, slice_range}
use Rattle.std.specs.List.{All}
use Rattle.x12_segs.specs.Words.{SegValue}
use Rattle.x12_segs.specs.declared.set_span.SetSpan.{SetSpan}
use Rattle.env_index.specs.declared.entry.SetEnvelope.{SetEnvelope}
use Rattle.env_index.specs.Words.{Extent, is_filler, IndexEntry, IsEntryOf, extents_of, InterchangeEntry, GroupEntry, Summary}
use Rattle.whole_interchanges.specs.Batches.{ChainUpTo}

abbrev pub moved_view : (by : ℕ) → SegValue → SegValue
moved_view by x = record { start = by + x.start; bytes = x.bytes; delims = x.delims }

abbrev pub moved_span : (by : ℕ) → SetSpan → SetSpan
moved_span by s = record { start = by + s.start; end = by + s.end; delims = s.delims; closed = s.closed }

abbrev pub moved_set : (by : ℕ) → SetEnvelope → SetEnvelope
moved_set by s = record {
  header = moved_view by s.header;
  segments = s.segments;
  trailer = option_map (moved_view by) s.trailer;
  end = by + s.end;
}

abbrev pub moved_group : (by : ℕ) → GroupEntry → GroupEntry
moved_group by g = record {
  header = moved_view by g.header;
  sets = map (moved_set by) g.sets;
  trailer = option_map (moved_view by) g.trailer;
}

abbrev pub moved_summary : (by : ℕ) → Summary → Summary
moved_summary by s = record {
  groups = map (moved_group by) s.groups;
  ta1s = s.ta1s;
  misplaced = s.misplaced;
  trailer = option_map (moved_view by) s.trailer;
}

abbrev pub moved_interchange : (by : ℕ) → InterchangeEntry → InterchangeEntry
moved_interchange by x = record {
  header = x.header;
  start = by + x.start;
  end = by + x.end;
  content = moved_summary by x.content;
}

abbrev pub moved_entry : (by : ℕ) → IndexEntry → IndexEntry
moved_entry by e = record { interchange = moved_interchange by e.interchange; fault = e.fault }

abbrev pub moved_extent : (by : ℕ) → Extent → Extent
moved_extent by x = record { start = by + x.start; end = by + x.end }

-- how many bytes are outside interchanges, up to an offset at which none is open
abbrev pub count_up_to : List ℕ → (from to : ℕ) → List Extent → ℕ
count_up_to text from to [] = count_by (λ b. not (is_filler b)) (slice_range text from to)
count_up_to text from to (x ∷ xs) = count_by (λ b. not (is_filler b)) (slice_range text from x.start) + count_up_to text x.end to xs

-- the index of a text, up to an offset at which no interchange is open
pub record IsIndexUpTo (text : List ℕ) (to : ℕ) (entries : List IndexEntry) (outside : ℕ) : Type 0 where
  pub chain : ChainUpTo text 0 to (extents_of entries)
  pub each : All (IsEntryOf text) entries
  pub counted : outside ≡ count_up_to text 0 to (extents_of entries)
