-- X12.6, transaction set: where the sets of an interchange are in the text.
use Rattle.std.specs.Prelude.{◌≡◌, ℕ, List, [], ◌∷◌, is_some}
use Rattle.std.specs.List.{All}
use Rattle.x12_bytes.specs.Header.{header_delims}
use Rattle.x12_bytes.specs.declared.delims.Delims.{Delims}
use Rattle.x12_segs.specs.declared.set_span.SetSpan.{SetSpan}
use Rattle.x12_segs.specs.Words.{SegValue, IsSetSpan, span_views}
use Rattle.env_index.specs.declared.entry.SetEnvelope.{SetEnvelope}
use Rattle.env_index.specs.Envelope.{Set, InGroup, ASet, OutOfGroup, InBody, ATa1, AGroup, OutOfBody, set_items}
use Rattle.env_index.specs.Interchange.{InterchangeEntry}
use Rattle.env_index.specs.Summary.{set_entry}

-- the span of a set of the index: from its ST to just after its last segment
abbrev pub span_of : Delims → SetEnvelope → SetSpan
span_of delims e = record { start = e.header.start; end = e.end; delims = delims; closed = is_some e.trailer }

-- the span of a set is a set's, and has just the segments of the set
pub record SetStandsAlone (text : List ℕ) (delims : Delims) (s : Set SegValue) : Type 0 where
  pub span : IsSetSpan text (span_of delims (set_entry s))
  pub segs : span_views text (span_of delims (set_entry s)) ≡ set_items s

-- each set of a group
abbrev pub EachSet : (Set SegValue → Type 0) → List (InGroup SegValue) → Type 0
EachSet P [] = Unit {0}
EachSet P (ASet s ∷ ms) = P s × EachSet P ms
EachSet P (OutOfGroup x ∷ ms) = EachSet P ms

-- each set of each group of an interchange
abbrev pub EachSetIn : (Set SegValue → Type 0) → List (InBody SegValue) → Type 0
EachSetIn P [] = Unit {0}
EachSetIn P (ATa1 x ∷ ms) = EachSetIn P ms
EachSetIn P (AGroup g ∷ ms) = EachSet P g.members × EachSetIn P ms
EachSetIn P (OutOfBody x ∷ ms) = EachSetIn P ms

-- each set of an indexed interchange is in a span of the text, read by the interchange's delimiters
abbrev pub HasSpans : List ℕ → InterchangeEntry → Type 0
HasSpans text x = All (λ group. All (λ set. IsSetSpan text (span_of (header_delims x.header) set)) group.sets) x.content.groups
