-- What is printed of old nights that are nights of a hub (own).
use Rattle.std.specs.Prelude.{ℕ, ◌+◌, List, [], ◌∷◌, ◌++◌, codes, decimal}
use Rattle.night_marks.specs.declared.mark.NightMark.{NightMark}

-- the line of a night, by its number
abbrev pub line_of : (number : ℕ) → NightMark → List ℕ
line_of number mark = codes "night " ++ (decimal number ++ (codes " (" ++ (mark.name ++ codes ")\n")))

-- the lines of nights, from this number on
abbrev pub lines_of : (number : ℕ) → List NightMark → List ℕ
lines_of number [] = []
lines_of number (mark ∷ marks) = line_of number mark ++ lines_of (number + 1) marks
