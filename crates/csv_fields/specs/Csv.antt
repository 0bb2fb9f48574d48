-- RFC 4180, comma-separated values: a record's fields with commas between them and CRLF after them. A field is in quotes where a byte
-- of it isn't TEXTDATA (other than `!`, `#` to `+` and `-` to `~`, and the space); in quotes each quote is twice, every other byte as
-- it is.
use Rattle.std.specs.Prelude.{ℕ, ◌==◌, Bool, not, ◌&&◌, nat_le, List, [], ◌∷◌, ◌++◌, map, if◌then◌else◌}
use Rattle.std.specs.List.{flat_map, list_all}
use denote.Ref.{Bor}

-- what lent fields read
abbrev pub read : List (Bor (List ℕ)) → List (List ℕ)
read fields = map (λ field. field.now) fields

abbrev pub is_text_data : ℕ → Bool
is_text_data b = nat_le 32 b && nat_le b 126 && not (b == 34) && not (b == 44)

abbrev pub twice_if_quote : ℕ → List ℕ
twice_if_quote b = if b == 34 then 34 ∷ 34 ∷ [] else b ∷ []

abbrev pub quoted_bytes : List ℕ → List ℕ
quoted_bytes text = flat_map twice_if_quote text

abbrev pub quoted : List ℕ → List ℕ
quoted text = 34 ∷ quoted_bytes text ++ 34 ∷ []

abbrev pub field_text : List ℕ → List ℕ
field_text text = if list_all is_text_data text then text else quoted text

-- fields, each after a comma
abbrev pub fields_text : List (List ℕ) → List ℕ
fields_text fields = flat_map (λ field. 44 ∷ field_text field) fields

-- fields with commas between them
abbrev pub cells_text : List (List ℕ) → List ℕ
cells_text [] = []
cells_text (field ∷ fields) = field_text field ++ fields_text fields

abbrev pub record_text : List (List ℕ) → List ℕ
record_text fields = cells_text fields ++ 13 ∷ 10 ∷ []

abbrev pub table_text : List (List (List ℕ)) → List ℕ
table_text rows = flat_map record_text rows
