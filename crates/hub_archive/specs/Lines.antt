-- What is printed of nights that are archived (own).
use Rattle.std.specs.Prelude.{ℕ, List, ◌++◌, codes, decimal}
use Rattle.file_names.specs.Shown.{shown}

-- a hub has no more nights than are kept
abbrev pub none_text : (hub : List ℕ) → (keep : ℕ) → List ℕ
none_text hub keep = shown hub ++ (codes ": no night is archived, since it has no more than --keep " ++ (decimal keep ++ codes "\n"))

-- nights are archived, the last of which has this number
abbrev pub archived_text : (hub : List ℕ) → (count : ℕ) → List ℕ
archived_text hub count = codes "nights 1 to " ++ (decimal count ++ (codes " are archived: " ++ (shown hub ++ codes "/archive\n")))
