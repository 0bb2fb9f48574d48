-- X12.6, data element type N0 without a sign: a number written in digits.
use Rattle.std.specs.Prelude.{ℕ, ◌+◌, ◌-◌, ◌*◌, Bool, ◌&&◌, nat_le, List, length, Option, Some, None, fold, if◌then◌else◌}
use Rattle.std.specs.List.{list_all}
use Rattle.std.specs.Char.{is_ascii_digit}

-- 1 to that many digits
abbrev pub is_number : ℕ → List ℕ → Bool
is_number most text = nat_le 1 (length text) && nat_le (length text) most && list_all is_ascii_digit text

-- the number that digits write
abbrev pub value_of : List ℕ → ℕ
value_of digits = fold (λ n digit. 10 * n + (digit - 48)) 0 digits

-- the number that a text of 1 to that many digits writes
abbrev pub number_of : ℕ → List ℕ → Option ℕ
number_of most text = if is_number most text then Some (value_of text) else None
