-- Own: how a name that others chose is printed, and a delimiter.
use Rattle.std.specs.Prelude.{ℕ, ◌+◌, ◌/◌, ◌%◌, ◌==◌, ◌&&◌, ◌||◌, Bool, nat_le, nat_lt, List, [], ◌∷◌, ◌++◌, codes, slice_index}
use Rattle.std.specs.Prelude.{if◌then◌else◌}

-- a digit of the base 16
abbrev pub digit : ℕ → ℕ
digit n = if nat_lt n 10 then 48 + n else 55 + n

-- a control character of ASCII
abbrev pub is_control : ℕ → Bool
is_control b = nat_lt b 32 || (b == 127)

-- after the byte 194, a control character beyond ASCII
abbrev pub is_late : ℕ → Bool
is_late b = nat_le 128 b && nat_lt b 160

-- by the byte before it and the one after it
abbrev pub is_escaped : (before b next : ℕ) → Bool
is_escaped before b next = is_control b || ((before == 194 && is_late b) || (b == 194 && is_late next))

abbrev pub escaped : ℕ → List ℕ
escaped b = codes "\\x" ++ (digit (b / 16) ∷ digit (b % 16) ∷ [])

-- byte 0, which no name of a file has, isn't shown
abbrev pub shown_byte : (before b next : ℕ) → List ℕ
shown_byte before b next = if b == 0 then [] else (if is_escaped before b next then escaped b else b ∷ [])

abbrev pub shown_after : (before : ℕ) → List ℕ → List ℕ
shown_after before [] = []
shown_after before (b ∷ bs) = shown_byte before b (slice_index bs 0) ++ shown_after b bs

abbrev pub shown : List ℕ → List ℕ
shown name = shown_after 0 name

-- by its number if it isn't a printable character of ASCII
abbrev pub shown_delimiter : ℕ → List ℕ
shown_delimiter b = if nat_lt 32 b && nat_lt b 127 then b ∷ [] else escaped b
