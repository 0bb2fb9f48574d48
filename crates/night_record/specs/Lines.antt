-- A text of lines, each with a line feed after it (own).
use Rattle.std.specs.Prelude.{◌≡◌, ◌≢◌, ℕ, ◌==◌, Bool, true, not, List, [], ◌∷◌, ◌++◌}
use Rattle.std.specs.List.{flat_map, list_all}

-- a line is one line: no byte of it is a line feed
abbrev pub is_line : List ℕ → Bool
is_line line = list_all (λ b. not (b == 10)) line

abbrev pub lines_text : List (List ℕ) → List ℕ
lines_text lines = flat_map (λ line. line ++ 10 ∷ []) lines

-- a text is that of these lines
pub record AreLinesOf (text : List ℕ) (lines : List (List ℕ)) : Type 0 where
  pub text_is : text ≡ lines_text lines
  pub each : list_all is_line lines ≡ true

-- a text isn't that of any lines: it ends without a line feed
abbrev pub IsUnended : (text : List ℕ) → Type 0
IsUnended text = (lines : List (List ℕ)) → list_all is_line lines ≡ true → text ≢ lines_text lines
