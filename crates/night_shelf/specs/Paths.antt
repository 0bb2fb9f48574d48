-- Paths in a hub's folder (own).
use Rattle.std.specs.Prelude.{ℕ, List, ◌++◌, codes}

-- the path of a name in a folder
abbrev pub path_in : (folder name : List ℕ) → List ℕ
path_in folder name = folder ++ (codes "/" ++ name)
