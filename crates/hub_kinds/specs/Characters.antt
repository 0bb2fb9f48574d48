-- X12.6, basic characters (own limits): letters and digits, all of ASCII; and segment identifiers.
use Rattle.std.specs.Prelude.{ℕ, Bool, ◌&&◌, ◌||◌, nat_le, List, length}
use Rattle.std.specs.List.{list_all}
use Rattle.std.specs.Char.{is_ascii_alphanumeric, is_ascii_uppercase, is_ascii_digit}

-- that many to that many letters or digits
abbrev pub is_word : ℕ → ℕ → List ℕ → Bool
is_word least most text = nat_le least (length text) && nat_le (length text) most && list_all is_ascii_alphanumeric text

abbrev pub is_upper_or_digit : ℕ → Bool
is_upper_or_digit b = is_ascii_uppercase b || is_ascii_digit b

-- X12.6, segment identifier: 2 or 3 upper-case letters or digits
abbrev pub is_segment_id : List ℕ → Bool
is_segment_id id = nat_le 2 (length id) && nat_le (length id) 3 && list_all is_upper_or_digit id
