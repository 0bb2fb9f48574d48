-- Where a table goes (own).
use Rattle.std.specs.Prelude.{ℕ, List, ◌++◌, codes}

-- the path at which a file is written before it goes to its place
abbrev pub part_of : (path : List ℕ) → List ℕ
part_of path = path ++ codes ".part"
