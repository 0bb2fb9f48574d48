-- X12.6, transaction set: its ST, its body, which is the element texts of the segments between ST and SE, and its SE if it has one.
use Rattle.std.specs.Prelude.{ℕ, ◌+◌, ◌-◌, Bool, true, false, List, [], map, length, Option, Some, None}
use Rattle.std.specs.Prelude.{if◌then◌else◌, slice_index_or, slice_range}
use Rattle.std.specs.List.{slice_get}
use Rattle.x12_bytes.specs.declared.delims.Delims.{Delims}
use Rattle.x12_segs.specs.Words.{SegValue, elements_of, span_views}
use Rattle.x12_segs.specs.declared.set_span.SetSpan.{SetSpan}
use Rattle.guide_tree.specs.Words.{Segment}

pub record SetParts : Type 0 where
  pub delims : Delims
  pub header : SegValue
  pub body : List Segment
  pub trailer : Option SegValue

-- a segment that isn't there
abbrev pub no_segment : Delims → SegValue
no_segment delims = record { start = 0; bytes = []; delims = delims }

-- how many segments come before the SE, or in all where there is none
abbrev pub before_trailer : (closed : Bool) → ℕ → ℕ
before_trailer closed count = if closed then count - 1 else count

-- the segments between the first and the SE
abbrev pub inner_of : (closed : Bool) → List SegValue → List SegValue
inner_of closed segments = slice_range segments 1 (before_trailer closed (length segments))

-- the last segment of a set that has an SE
abbrev pub set_trailer_of : (closed : Bool) → List SegValue → Option SegValue
set_trailer_of true segments = slice_get segments (length segments - 1)
set_trailer_of false segments = None

abbrev pub parts_of : Delims → (closed : Bool) → List SegValue → SetParts
parts_of delims closed segments = record {
  delims = delims;
  header = slice_index_or segments 0 (no_segment delims);
  body = map elements_of (inner_of closed segments);
  trailer = set_trailer_of closed segments;
}

-- the parts of the set that a span of a text is
abbrev pub set_parts : List ℕ → SetSpan → SetParts
set_parts text span = parts_of span.delims span.closed (span_views text span)

-- how many segments a set has, ST and SE among them
abbrev pub segments_of_set : SetParts → ℕ
segments_of_set parts = length parts.body + (1 + trailer_count parts.trailer) where
  trailer_count : Option SegValue → ℕ
  trailer_count None = 0
  trailer_count (Some trailer) = 1

-- the position after the body: that of SE, or without SE the number of segments plus 1
abbrev pub end_position : SetParts → ℕ
end_position parts = length parts.body + 2
