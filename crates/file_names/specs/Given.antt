-- Own: an argument of a program as a text.
use Rattle.std.specs.Prelude.{ℕ, Bool, nat_lt, eqb, List, [], ◌∷◌, ◌++◌, if◌then◌else◌}
use Rattle.std.specs.List.{ends_with}
use Rattle.std.specs.Str.{is_utf8}
use Rattle.file_names.specs.Shown.{escaped}

-- a byte beyond ASCII by its number, any other as it is
abbrev pub marked_byte : ℕ → List ℕ
marked_byte b = if nat_lt b 128 then b ∷ [] else escaped b

abbrev pub marked_bytes : List ℕ → List ℕ
marked_bytes [] = []
marked_bytes (b ∷ bs) = marked_byte b ++ marked_bytes bs

-- and NUL after them, which no argument has: so no file has this name
abbrev pub marked : List ℕ → List ℕ
marked bytes = marked_bytes bytes ++ 0 ∷ []

-- UTF-8 as it is, and what isn't UTF-8 marked so
abbrev pub text_of : List ℕ → List ℕ
text_of bytes = if is_utf8 bytes then bytes else marked bytes

-- NUL is its last byte
abbrev pub is_marked : List ℕ → Bool
is_marked text = ends_with eqb text (0 ∷ [])
