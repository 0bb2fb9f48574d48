-- What may be in a record and in its tables: numbers, names, moments, sums, and the order of names (X12.5, ISA13; X12.6, GS06 and
-- ST02; FIPS 180-4, SHA-256; own).
use Rattle.std.specs.Prelude.{ℕ, ◌==◌, Bool, true, not, ◌&&◌, ◌||◌, nat_le, List, [], ◌∷◌, length}
use Rattle.std.specs.Char.{is_ascii_digit}
use Rattle.std.specs.Cmp.Lexicographic.{slice_cmp}
use Rattle.std.specs.List.{list_all}
use Rattle.std.specs.Ordering.{is_lt, nat_cmp}

-- a number of a night, or a control number: 1 to 999,999,999
abbrev pub is_count : ℕ → Bool
is_count n = nat_le 1 n && nat_le n 999999999

-- the exit status of a run
abbrev pub is_status : ℕ → Bool
is_status n = nat_le n 6

-- a byte of a name is no control byte, no quotation mark and no backslash; bytes over 127 are allowed
abbrev pub is_name_byte : ℕ → Bool
is_name_byte b = nat_le 32 b && (not (b == 127) && (not (b == 34) && not (b == 92)))

-- a name has one byte or more
abbrev pub is_name : List ℕ → Bool
is_name text = nat_le 1 (length text) && list_all is_name_byte text

-- a moment: CCYYMMDDHHMM in twelve digits
abbrev pub is_moment : List ℕ → Bool
is_moment text = (length text == 12) && list_all is_ascii_digit text

abbrev pub is_hex_digit : ℕ → Bool
is_hex_digit b = is_ascii_digit b || (nat_le 97 b && nat_le b 102)

-- a sum: SHA-256 in 64 digits, as sha256sum prints it
abbrev pub is_sum : List ℕ → Bool
is_sum text = (length text == 64) && list_all is_hex_digit text

-- a name comes before another one in the order of bytes
abbrev pub comes_before : (name other : List ℕ) → Bool
comes_before name other = is_lt (slice_cmp nat_cmp name other)

-- each name comes after the one before it, and the first after `last`
abbrev pub rise_after : (last : List ℕ) → (names : List (List ℕ)) → Bool
rise_after last [] = true
rise_after last (name ∷ names) = comes_before last name && rise_after name names

-- names are in the order of bytes, each once
abbrev pub are_rising : (names : List (List ℕ)) → Bool
are_rising [] = true
are_rising (name ∷ names) = rise_after name names
