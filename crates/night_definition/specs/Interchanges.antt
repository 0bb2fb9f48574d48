-- X12.5, interchange: where the interchanges of a text begin and end. Own: one without IEA ends before the next header.
use Rattle.std.specs.Prelude.{ℕ, ◌+◌, ◌==◌, nat_lt, Bool, true, false, ◌||◌, List, [], ◌∷◌, length, drop}
use Rattle.std.specs.Prelude.{if◌then◌else◌}
use Rattle.x12_bytes.specs.declared.delims.Delims.{Delims}
use Rattle.night_definition.specs.Header.{is_head, header_at, delims_of, divided}
use Rattle.night_definition.specs.Segments.{Segment, segment_of, is_blank, Kind, kind_of, iea}
use Rattle.night_definition.specs.Envelopes.{Read, read, in_body}

-- the segments of an interchange after its header, and where it ends
pub record Reach : Type 0 where
  pub segments : List Segment
  pub end : ℕ

abbrev pub ends_there : ℕ → Reach
ends_there end = record { segments = []; end = end }

abbrev pub with_segment : Kind → Segment → Reach → Reach
with_segment iea s r = record { segments = s ∷ []; end = s.end }
with_segment kind s r = record { segments = s ∷ r.segments; end = r.end }

-- An interchange ends before the first segment, or rest, that begins with a header; otherwise after its first IEA; otherwise with the
-- text. Bytes of CR and LF alone make no segment, and neither does the rest after the last terminator.
abbrev pub reach_after : (text : List ℕ) → Delims → (offset : ℕ) → (parts : List (List ℕ)) → Reach
reach_after text d offset [] = ends_there (length text)
reach_after text d offset (rest ∷ []) =
    let s = segment_of d offset rest in ends_there (if is_head text s.start then s.start else length text)
reach_after text d offset (part ∷ next ∷ parts) =
    let s = segment_of d offset part in
    let more = reach_after text d (offset + length part + 1) (next ∷ parts) in
    if is_blank part then more
    else if is_head text s.start then ends_there s.start
    else with_segment (kind_of s.elements) s more

abbrev pub reach_at : (text : List ℕ) → (offset : ℕ) → Reach
reach_at text offset =
    let d = delims_of (header_at text offset) in
    reach_after text d (offset + 106) (divided d.terminator (drop (offset + 106) text))

-- an interchange: its header, where it starts and ends, its delimiters and its envelopes
pub record Interchange : Type 0 where
  pub header : List ℕ
  pub delims : Delims
  pub start : ℕ
  pub end : ℕ
  pub content : Read

abbrev pub interchange_at : (text : List ℕ) → (offset : ℕ) → Interchange
interchange_at text offset =
    let reach = reach_at text offset in
    record {
      header = header_at text offset;
      delims = delims_of (header_at text offset);
      start = offset;
      end = reach.end;
      content = read reach.segments in_body;
    }

-- the interchanges of a text, in order, and the number of bytes outside them other than CR, LF and space
pub record Text : Type 0 where
  pub interchanges : List Interchange
  pub outside : ℕ

abbrev pub is_filler : ℕ → Bool
is_filler b = b == 13 || b == 10 || b == 32

abbrev pub with_interchange : Interchange → Text → Text
with_interchange x t = record t { interchanges = x ∷ t.interchanges }

abbrev pub with_byte : ℕ → Text → Text
with_byte b t = if is_filler b then t else record t { outside = t.outside + 1 }

-- Offset by offset: one before the end of the last interchange belongs to it; one at which a header begins starts the next interchange;
-- at any other the byte is outside.
abbrev pub found_at : (within head : Bool) → (text : List ℕ) → (offset end byte : ℕ) → (rest : (end : ℕ) → Text) → Text
found_at true head text offset end b rest = rest end
found_at false true text offset end b rest =
    let x = interchange_at text offset in with_interchange x (rest x.end)
found_at false false text offset end b rest = with_byte b (rest end)

abbrev pub found_from : (text : List ℕ) → (bytes : List ℕ) → (offset end : ℕ) → Text
found_from text [] offset end = record { interchanges = []; outside = 0 }
found_from text (b ∷ bytes) offset end =
    found_at (nat_lt offset end) (is_head text offset) text offset end b (λ e. found_from text bytes (offset + 1) e)

abbrev pub text_of : (text : List ℕ) → Text
text_of text = found_from text text 0 0
