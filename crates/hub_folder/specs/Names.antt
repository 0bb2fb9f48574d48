-- Names of nights and of their folders, and paths of hubs (own).
use Rattle.std.specs.Prelude.{ℕ, ◌==◌, ◌+◌, Bool, false, not, ◌&&◌, ◌||◌, List, [], ◌∷◌, ◌++◌, codes, decimal, drop}
use Rattle.std.specs.Char.{is_ascii_alphanumeric}
use Rattle.std.specs.List.{list_all}
use Rattle.clap.specs.Words.{Text}
use Rattle.file_names.specs.Given.{is_marked}

-- a byte of a night's name: a letter, a digit, _ or -
abbrev pub is_night_byte : ℕ → Bool
is_night_byte b = is_ascii_alphanumeric b || (b == 95 || b == 45)

-- a night's name doesn't begin with -
abbrev pub is_night_name : List ℕ → Bool
is_night_name [] = false
is_night_name (b ∷ bs) = not (b == 45) && list_all is_night_byte (b ∷ bs)

-- a number of a night in six digits
abbrev pub six_digits : ℕ → List ℕ
six_digits number = drop 1 (decimal (1000000 + number))

-- the folder of a night, by its number and its name
abbrev pub folder_name : (number : ℕ) → (name : List ℕ) → List ℕ
folder_name number name = six_digits number ++ (codes "-" ++ name)

-- the folder of the night after `count` others, those that are archived among them
abbrev pub folder_after : (count : ℕ) → (name : List ℕ) → List ℕ
folder_after count name = folder_name (count + 1) name

-- a path: it isn't empty, and is UTF-8
abbrev pub is_path : Text → Bool
is_path [] = false
is_path (b ∷ bs) = not (is_marked (b ∷ bs))
