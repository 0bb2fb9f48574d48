-- Private. Whether the lines that are left of a report are clean, after this last one.
use Rattle.std.specs.Prelude.{ℕ, Bool, not, ◌&&◌, List, [], ◌∷◌}
use Rattle.night_report.specs.Clean.{tells_of_trouble, ends_in_nought}

abbrev pub are_clean : (last : List ℕ) → List (List ℕ) → Bool
are_clean last [] = ends_in_nought last
are_clean last (line ∷ lines) = not (tells_of_trouble line) && are_clean line lines
