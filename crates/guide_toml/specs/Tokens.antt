-- The guide file (own): tokens, which are with one space between.
use Rattle.std.specs.Prelude.{ℕ, ◌==◌, List, codes, Bool, ◌&&◌, ◌||◌, not, nat_le, length}
use Rattle.std.specs.List.{slice_split, list_all}
use Rattle.std.specs.Str.{bytes_eq}

abbrev pub is_space : ℕ → Bool
is_space b = b == 32

abbrev pub tokens_of : List ℕ → List (List ℕ)
tokens_of text = slice_split is_space text

abbrev pub is_semicolon : List ℕ → Bool
is_semicolon token = bytes_eq token (codes ";")

-- the tokens between semicolons
abbrev pub token_groups : List (List ℕ) → List (List (List ℕ))
token_groups tokens = slice_split is_semicolon tokens

-- 0x21 to 0x7E but for `=`, `!` and `;`
abbrev pub is_code_byte : ℕ → Bool
is_code_byte b = nat_le 33 b && nat_le b 126 && not ((b == 61) || (b == 33) || (b == 59))

-- a code: one or more such bytes
abbrev pub is_code : List ℕ → Bool
is_code token = nat_le 1 (length token) && list_all is_code_byte token
