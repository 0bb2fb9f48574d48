-- X12.6, delimiters: the bytes that divide a text.
use Rattle.std.specs.Prelude.{ℕ, Bool, false, ◌||◌, ◌==◌, Option, Some, None}
use Rattle.x12_bytes.specs.declared.delims.Delims.{Delims}

-- there is a number, and it is this one
abbrev pub is_this : Option ℕ → ℕ → Bool
is_this (Some a) b = a == b
is_this None b = false

-- one of the element separator, the component separator, the terminator and, where there is one, the repetition separator
abbrev pub is_delimiter : Delims → ℕ → Bool
is_delimiter d b = b == d.element || b == d.component || b == d.terminator || is_this d.repetition b
