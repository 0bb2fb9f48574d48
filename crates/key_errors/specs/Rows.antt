-- Own: a key's row in a table, the first that has the key.
use Rattle.std.specs.Prelude.{ℕ, List, [], ◌∷◌, Option, None, Some, if◌then◌else◌}
use Rattle.std.specs.Str.{bytes_eq}

abbrev pub find_by : {Row Value : Type 0} → (key_of : Row → List ℕ) → (value_of : Row → Value) → List Row → (key : List ℕ) → Option Value
find_by key_of value_of [] key = None
find_by key_of value_of (row ∷ rows) key = if bytes_eq (key_of row) key then Some (value_of row) else find_by key_of value_of rows key

-- the words of the row, or else others
abbrev pub words_by : {Row : Type 0} → (key_of words_of : Row → List ℕ) → List Row → (other key : List ℕ) → List ℕ
words_by key_of words_of [] other key = other
words_by key_of words_of (row ∷ rows) other key =
    if bytes_eq (key_of row) key then words_of row else words_by key_of words_of rows other key
