-- TOML, values (own): how a value of a file is shown in a sentence.
use Rattle.std.specs.Prelude.{ℕ, ℤ, ◌+◌, ◌/◌, ◌%◌, ◌==◌, List, [], ◌∷◌, ◌++◌, Bool, ◌||◌, not, nat_lt, codes, decimal}
use Rattle.std.specs.Prelude.{if◌then◌else◌}
use Rattle.std.specs.Fmt.{signed_decimal}
use Rattle.toml.specs.Data.{Data, Items, array, boolean, datetime, float, integer, item, no_items, string, table}
use Rattle.key_errors.specs.declared.words.TheConstants as say

-- a digit of the base 16
abbrev pub digit : ℕ → ℕ
digit n = if nat_lt n 10 then 48 + n else 55 + n

-- a byte that can't be seen
abbrev pub is_control : ℕ → Bool
is_control b = nat_lt b 32 || (b == 127)

abbrev pub is_seen : ℕ → Bool
is_seen b = not (is_control b)

abbrev pub escaped : ℕ → List ℕ
escaped b = codes "\\u00" ++ (digit (b / 16) ∷ digit (b % 16) ∷ [])

-- a byte of a text, as TOML may write it: a quote, a stroke back and what can't be seen are escaped
abbrev pub shown_byte : ℕ → List ℕ
shown_byte b =
    if is_control b then escaped b
    else (if (b == 34) || (b == 92) then 92 ∷ b ∷ [] else b ∷ [])

abbrev pub shown_bytes : List ℕ → List ℕ
shown_bytes [] = []
shown_bytes (b ∷ bs) = shown_byte b ++ shown_bytes bs

-- a text in quotes
abbrev pub shown_text : List ℕ → List ℕ
shown_text s = codes "\"" ++ (shown_bytes s ++ codes "\"")

abbrev pub count_of : Items → ℕ
count_of no_items = 0
count_of (item d ds) = count_of ds + 1

abbrev pub integer_text : ℤ → List ℕ
integer_text z = signed_decimal z

abbrev pub flag_text : Bool → List ℕ
flag_text b = if b then codes "true" else codes "false"

abbrev pub list_text : Items → List ℕ
list_text ds = say.LIST.now ++ decimal (count_of ds)

-- a value: of a list how long it is
abbrev pub shown : Data → List ℕ
shown (string s) = shown_text s
shown (integer z) = integer_text z
shown (float x) = say.POINT.now
shown (boolean b) = flag_text b
shown (datetime t) = say.DATE.now
shown (array ds) = list_text ds
shown (table ms) = say.TABLE.now
