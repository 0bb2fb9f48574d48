-- Files and folders that were asked for by their paths (own): what was read of each.
use Rattle.std.specs.Prelude.{ℕ, ◌==◌, List, [], ◌∷◌, Option, Some, None, if◌then◌else◌}
use Rattle.system_io.specs.Outbox.{path_in}
use Rattle.night_marks.specs.declared.bad.NightFile.{NightFile}

-- a file: its bytes, if it can be read
pub record FileValue : Type 0 where
  pub path : List ℕ
  pub bytes : Option (List ℕ)

-- a folder: the names in it, if it can be listed
pub record FolderValue : Type 0 where
  pub path : List ℕ
  pub names : Option (List (List ℕ))

-- a file that can't be read
abbrev pub unread : {X : Type 0} → NightFile → Option X → Option NightFile
unread file None = Some file
unread file (Some bytes) = None

abbrev pub bytes_or_none : Option (List ℕ) → List ℕ
bytes_or_none None = []
bytes_or_none (Some bytes) = bytes

-- a text up to its first line feed
abbrev pub first_line : List ℕ → List ℕ
first_line [] = []
first_line (b ∷ bs) = if b == 10 then [] else b ∷ first_line bs

-- a file of a night
abbrev pub in_night : (nights night file : List ℕ) → List ℕ
in_night nights night file = path_in (path_in nights night) file
