-- X12.5 and X12.6, control segments: the letters with which their ids begin (for inner clauses; no public clause cites it).
use Rattle.std.specs.Prelude.{ℕ, ◌==◌, Bool, false, ◌||◌, List, [], ◌∷◌}

abbrev pub is_control_letter : ℕ → Bool
is_control_letter b = b == 73 || b == 71 || b == 83 || b == 84

abbrev pub begins_as_control : List ℕ → Bool
begins_as_control [] = false
begins_as_control (b ∷ bs) = is_control_letter b
