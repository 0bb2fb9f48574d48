-- X12.6, segment terminator (own: when a text may be copied whole): segments that are one right after another's terminator. Private.
use Rattle.std.specs.Prelude.{ℕ, ◌≡◌, ◌==◌, ◌&&◌, ◌||◌, Bool, not, List, [], ◌∷◌, length}
use Rattle.std.specs.List.{flat_map}
use Rattle.x12_bytes.specs.Bytes.{is_line_end}
use Rattle.x12_bytes.specs.declared.delims.Delims.{Delims}
use Rattle.x12_segs.specs.Words.{SegValue}
use Rattle.mailbox.specs.Read.{text_as_read}

-- after this byte no terminator follows another one, there is no CR or LF, and the last byte is a terminator
abbrev pub is_gapless : (terminator before : ℕ) → List ℕ → Bool
is_gapless t before [] = before == t
is_gapless t before (b ∷ bytes) = not (before == t && b == t || is_line_end b) && is_gapless t b bytes

-- this many segments, read one by one, are these bytes
pub record AreWhole (d : Delims) (bytes : List ℕ) (count : ℕ) (segs : List SegValue) : Type 0 where
  pub text : flat_map (text_as_read d) segs ≡ bytes
  pub count_is : length segs ≡ count
