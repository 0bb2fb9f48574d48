-- X12.5, interchange: files one after another, of which none changes how another is read (own).
use Rattle.std.specs.Prelude.{◌≡◌, ℕ, ◌⊎◌, true, List, [], ◌∷◌, ◌++◌, length}
use Rattle.night_definition.specs.Header.{is_head}
use Rattle.night_definition.specs.Interchanges.{Text, text_of}
use Rattle.gather_files.specs.Moved.{in_a_row, moved}

-- two texts, one after the other, are read as each alone: the interchanges of `before`, then those of `after`, moved to where it is
abbrev pub AreReadAlone : (before after : List ℕ) → Type 0
AreReadAlone before after = text_of (before ++ after) ≡ in_a_row (text_of before) (moved (length before) (text_of after))

-- what may be put after a file: nothing, or what begins with a header
abbrev pub MayComeAfter : List ℕ → Type 0
MayComeAfter after = (after ≡ []) ⊎ (is_head after 0 ≡ true)

-- a file stands alone: whichever files come after it, the file is read alone, and so are they
abbrev pub StandsAlone : (file : List ℕ) → Type 0
StandsAlone file = (after : List ℕ) → MayComeAfter after → AreReadAlone file after

-- bytes are complete: whatever bytes come after them, both are read alone
abbrev pub IsComplete : (bytes : List ℕ) → Type 0
IsComplete bytes = (after : List ℕ) → AreReadAlone bytes after

-- files in a row, each read alone and moved to where it is
abbrev pub text_of_files : List (List ℕ) → Text
text_of_files [] = record { interchanges = []; outside = 0 }
text_of_files (file ∷ files) = in_a_row (text_of file) (moved (length file) (text_of_files files))
