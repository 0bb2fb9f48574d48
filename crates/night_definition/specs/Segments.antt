-- X12.6, data segment: the text between two terminators, and its elements.
use Rattle.std.specs.Prelude.{ℕ, ◌+◌, ◌==◌, Bool, ◌||◌, List, [], length, drop, codes, bytes_eq, slice_index_or}
use Rattle.std.specs.Prelude.{if◌then◌else◌}
use Rattle.std.specs.List.{prefix_len}
use Rattle.x12_bytes.specs.declared.delims.Delims.{Delims}
use Rattle.night_definition.specs.Header.{divided}

-- the texts between element separators: the id, then each element
abbrev pub Elements : Type 0
Elements = List (List ℕ)

-- element k, from 1; at 0 the id; empty where there is none
abbrev pub element : ℕ → Elements → List ℕ
element k elements = slice_index_or elements k []

-- a segment in a text: the offset of its first byte, the offset after its terminator, and its elements
pub record Segment : Type 0 where
  pub start : ℕ
  pub end : ℕ
  pub elements : Elements

abbrev pub is_line_end : ℕ → Bool
is_line_end b = b == 13 || b == 10

-- the segment made by the text before a terminator; leading CR and LF don't belong to it
abbrev pub segment_of : Delims → (offset : ℕ) → List ℕ → Segment
segment_of d offset part =
    let lead = prefix_len is_line_end part in
    record { start = offset + lead; end = offset + lead + length (drop lead part) + 1; elements = divided d.element (drop lead part) }

abbrev pub is_blank : List ℕ → Bool
is_blank part = prefix_len is_line_end part == length part

-- the part that a segment plays in the envelopes, by its id
pub data Kind : Type 0 where
  iea : Kind
  gs : Kind
  ge : Kind
  st : Kind
  se : Kind
  ta1 : Kind
  other : Kind

abbrev pub kind_of : Elements → Kind
kind_of s =
    if bytes_eq (element 0 s) (codes "IEA") then iea
    else if bytes_eq (element 0 s) (codes "GS") then gs
    else if bytes_eq (element 0 s) (codes "GE") then ge
    else if bytes_eq (element 0 s) (codes "ST") then st
    else if bytes_eq (element 0 s) (codes "SE") then se
    else if bytes_eq (element 0 s) (codes "TA1") then ta1
    else other
