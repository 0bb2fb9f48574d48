-- The nights of a folder (own): each folder in it that has a file `done`.
use Rattle.std.specs.Prelude.{◌≡◌, ◌⊎◌, ℕ, ◌==◌, Bool, true, false, List, [], ◌∷◌, Option, Some, None, Ok, codes}
use Rattle.system_io.specs.Paths.{Look}
use Rattle.night_folder.specs.Files.{FileValue, bytes_or_none, first_line, in_night}
use Rattle.night_marks.specs.declared.mark.NightMark.{NightMark}

-- what the nights' folder has beside nights begins with a dot
abbrev pub is_hidden : (name : List ℕ) → Bool
is_hidden [] = false
is_hidden (b ∷ bs) = b == 46

-- the system said that nothing is at a path
pub record IsAbsent (path : List ℕ) : Type 0 where
  pub look : Look
  pub path_is : look.path ≡ path
  pub absent : look.answer ≡ Ok false

-- a night's name, its moment, and the name of the night before it, by its files from/at and from/before
pub record IsMark (nights name : List ℕ) (mark : NightMark) : Type 0 where
  pub at : FileValue
  pub before : FileValue
  pub at_is : at.path ≡ in_night nights name (codes "from/at")
  pub before_is : before.path ≡ in_night nights name (codes "from/before")
  pub name_is : mark.name ≡ name
  pub moment_is : mark.moment ≡ bytes_or_none at.bytes
  pub named_is : mark.before ≡ first_line (bytes_or_none before.bytes)
  pub unarchived : mark.is_archived ≡ false

-- a name in the folder is that of a night, or it is passed over: it is hidden, or has no file `done`
abbrev pub IsFound : (nights name : List ℕ) → Option NightMark → Type 0
IsFound nights name None = (is_hidden name ≡ true) ⊎ IsAbsent (in_night nights name (codes "done"))
IsFound nights name (Some mark) = (is_hidden name ≡ false) × IsMark nights name mark
