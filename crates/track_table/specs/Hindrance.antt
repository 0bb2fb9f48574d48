-- X12.5, delimiters (own): which byte of a set is in the way of its delivery, and in which segment it is first.
use Rattle.std.specs.Prelude.{ℕ, ◌+◌, List, [], ◌∷◌, Option, Some, None, find}
use Rattle.x12_bytes.specs.declared.delims.Delims.{Delims}
use Rattle.x12_segs.specs.Words.{SegValue}
use Rattle.answered_sets.specs.Judged.{PlacedValue, delims_in}
use Rattle.mailbox.specs.Deliveries.{inner_in, collides, kept_parts}
use Rattle.track_table.specs.declared.hindrance.Hindrance.{Hindrance}

-- the first byte of a text that isn't a delimiter where it comes from, and one where it goes to
abbrev pub byte_in_the_way : (from to : Delims) → List ℕ → Option ℕ
byte_in_the_way from to text = find (collides from to) text

-- the one, or else the other
abbrev pub byte_or : Option ℕ → Option ℕ → Option ℕ
byte_or None other = other
byte_or (Some b) other = Some b

-- the first one of texts
abbrev pub byte_in_parts : (from to : Delims) → List (List ℕ) → Option ℕ
byte_in_parts from to [] = None
byte_in_parts from to (part ∷ parts) = byte_or (byte_in_the_way from to part) (byte_in_parts from to parts)

-- that byte after this many segments, or what is found after it
abbrev pub here_or : Option ℕ → (before : ℕ) → Option Hindrance → Option Hindrance
here_or None before behind = behind
here_or (Some b) before behind = Some (record { byte = b; before = before })

-- in segments after this many
abbrev pub first_in : (from to : Delims) → (before : ℕ) → List SegValue → Option Hindrance
first_in from to before [] = None
first_in from to before (seg ∷ segs) = here_or (byte_in_the_way from to seg.bytes) before (first_in from to (before + 1) segs)

-- in what is kept of a set, its SE left aside: of its ST, or of a segment after that
abbrev pub hindrance_to : (to : Delims) → PlacedValue → Option Hindrance
hindrance_to to p =
    here_or (byte_in_parts (delims_in p) to (kept_parts p.set.header)) 0 (first_in (delims_in p) to 1 (inner_in p))
