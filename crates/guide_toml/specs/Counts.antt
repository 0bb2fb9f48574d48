-- The guide file (own): numbers in texts.
use Rattle.std.specs.Prelude.{ℕ, ◌+◌, ◌-◌, ◌*◌, List, [], ◌∷◌, Option, Some, None, ◌&&◌, nat_le, if◌then◌else◌}
use Rattle.std.specs.Char.{is_ascii_digit}
use Rattle.toml_keys.specs.declared.values.TheConstants.{GREATEST_NUMBER}

-- the number that digits write after those that wrote n; none past the greatest
abbrev pub count_from : ℕ → List ℕ → Option ℕ
count_from n [] = Some n
count_from n (d ∷ ds) = if is_ascii_digit d && nat_le (10 * n + (d - 48)) GREATEST_NUMBER then count_from (10 * n + (d - 48)) ds else None

-- the number that one or more digits write, at most 4,294,967,295; leading zeros are allowed
abbrev pub count_of : List ℕ → Option ℕ
count_of [] = None
count_of (d ∷ ds) = count_from 0 (d ∷ ds)
