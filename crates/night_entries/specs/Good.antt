-- What the files of a night are, where each is one (own).
use Rattle.std.specs.Prelude.{ℕ, ◌==◌, Bool, not, ◌&&◌, ◌||◌, nat_le, List, Option, codes, drop, is_some, length, take}
use Rattle.std.specs.List.{list_any}
use Rattle.std.specs.Str.{bytes_eq}
use Rattle.csv_fields.specs.declared.columns.TheConstants as column
use Rattle.night_definition.specs.Header.{is_head}
use Rattle.hub_kinds.specs.Numbers.{is_number, value_of}
use Rattle.hub_ledger.specs.declared.entry.AddressNumbers.{AddressNumbers}
use Rattle.night_entries.specs.Keys.{cell, is_delivered}

-- CCYYMMDDHHMM in twelve digits
abbrev pub is_moment : List ℕ → Bool
is_moment text = (length text == 12) && is_number 12 text

-- a byte is in a text
abbrev pub has_byte : ℕ → List ℕ → Bool
has_byte byte text = list_any (λ b. b == byte) text

-- a line without its line feed: a sum of 64 digits, two spaces and a name
abbrev pub is_sum_line : List ℕ → Bool
is_sum_line line = nat_le 66 (length line) && bytes_eq (take 2 (drop 64 line)) (codes "  ")

-- a row with all columns; one that says delivered has the offset of a header, a receiver of the setup, and no NUL in GS06 and ST02
abbrev pub is_offset : (input text : List ℕ) → Bool
is_offset input text = is_number 10 text && is_head input (value_of text)

abbrev pub has_key : (input : List ℕ) → (receiver : List ℕ → Option AddressNumbers) → (row : List (List ℕ)) → Bool
has_key input receiver row =
    is_some (receiver (cell row column.RECEIVER)) && (is_offset input (cell row column.OFFSET)
    && (not (has_byte 0 (cell row column.GS06)) && not (has_byte 0 (cell row column.ST02))))

abbrev pub is_row : (input : List ℕ) → (receiver : List ℕ → Option AddressNumbers) → (row : List (List ℕ)) → Bool
is_row input receiver row = (length row == column.COLUMNS) && (not (is_delivered row) || has_key input receiver row)
