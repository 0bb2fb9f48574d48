-- X12.5, delimiters of an interchange; X12.6, control characters and character set: the bytes that make a segment one that isn't plain.
use Rattle.std.specs.Prelude.{ℕ, Bool, false, ◌||◌, ◌==◌, nat_le, nat_lt, Option, None, Some}
use Rattle.x12_bytes.specs.declared.delims.Delims.{Delims}

-- the repetition separator, where there is one
abbrev pub is_repetition : Option ℕ → ℕ → Bool
is_repetition None byte = false
is_repetition (Some separator) byte = byte == separator

-- a control byte, or a byte that is in neither of the character sets as a byte of its own: from DEL on
abbrev pub is_beyond : ℕ → Bool
is_beyond byte = nat_lt byte 32 || nat_le 127 byte

-- a byte that may divide an element, or that no element may hold in every character set
abbrev pub is_odd : Delims → ℕ → Bool
is_odd delims byte = byte == delims.component || is_repetition delims.repetition byte || is_beyond byte
