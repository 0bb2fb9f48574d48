-- X12.6, transaction set: the stretch of a text that a set takes, from the first byte of its ST to just after its last terminator.
use Rattle.std.specs.Prelude.{ℕ, ◌≡◌, ◌≤◌, Bool, true, false, List, [], ◌∷◌, ◌++◌, length, map}
use Rattle.std.specs.List.{list_all}
use Rattle.x12_segs.specs.Segs.{Seg, segs_within}
use Rattle.x12_segs.specs.View.{SegValue, view_of}
use Rattle.x12_segs.specs.Runs.{start_offset, end_of}
use Rattle.x12_segs.specs.Kinds.{kind_of, may_stand_in_set}
use Rattle.x12_segs.specs.declared.kind.Kind.{Kind}
use Rattle.x12_segs.specs.declared.kind.Kind.TheVariants.{SetHeader, SetTrailer}
use Rattle.x12_segs.specs.declared.set_span.SetSpan.{SetSpan}

-- the segments of a span
abbrev pub span_segs : List ℕ → SetSpan → List Seg
span_segs text span = segs_within text span.delims.terminator span.start span.end

abbrev pub span_views : List ℕ → SetSpan → List SegValue
span_views text span = map (view_of span.delims) (span_segs text span)

-- SE is at the end of a set that is closed
abbrev pub trailer_kinds : Bool → List Kind
trailer_kinds true = SetTrailer ∷ []
trailer_kinds false = []

-- a stretch that is a set: it begins and ends with its segments; the first is ST, the last SE where it is closed, no other is
-- ST, SE, GE, GS or IEA
pub record IsSetSpan (text : List ℕ) (span : SetSpan) : Type 0 where
  pub within : span.end ≤ length text
  pub start : start_offset (span_segs text span) ≡ span.start
  pub end : end_of (span_segs text span) ≡ span.end
  pub inner : List Kind
  pub kinds : map kind_of (span_views text span) ≡ SetHeader ∷ (inner ++ trailer_kinds span.closed)
  pub plain : list_all may_stand_in_set inner ≡ true
