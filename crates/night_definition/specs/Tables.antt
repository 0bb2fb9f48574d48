-- own: the values of a TOML table. An absent value, or one of another kind, is None.
use Rattle.std.specs.Prelude.{ℕ, ℤ, pos, negsuc, nat_le, List, [], ◌∷◌, Option, Some, None, Bool, if◌then◌else◌, option_map}
use Rattle.std.specs.Prelude.{option_and_then, bytes_eq}
use Rattle.std.specs.Option.{option_map_or}
use Rattle.toml.specs.Data.{Data, Items, no_items, item, Members, get_member, as_str, as_integer, as_array, as_table}
use Rattle.night_definition.specs.Header.{is_word}

infixl 10 ◌>>=◌
abbrev pub ◌>>=◌ : {A B : Type 0} → Option A → (A → Option B) → Option B
o >>= f = option_and_then f o

abbrev pub required : {A : Type 0} → (Data → Option A) → (key : List ℕ) → Members → Option A
required read key ms = get_member key ms >>= read

-- the value of a key that may be absent
abbrev pub optional : {A : Type 0} → A → (Data → Option A) → (key : List ℕ) → Members → Option A
optional absent read key ms = option_map_or read (get_member key ms) (Some absent)

abbrev pub only : {A : Type 0} → (A → Bool) → A → Option A
only test x = if test x then Some x else None

abbrev pub natural : ℤ → Option ℕ
natural (pos n) = only (λ m. nat_le m 4294967295) n
natural (negsuc n) = None

abbrev pub number : Data → Option ℕ
number d = as_integer d >>= natural

abbrev pub word : (least most : ℕ) → Data → Option (List ℕ)
word least most d = as_str d >>= only (is_word least most)

abbrev pub each : {A : Type 0} → (Data → Option A) → Items → Option (List A)
each read no_items = Some []
each read (item d ds) = read d >>= λ x. option_map (λ xs. x ∷ xs) (each read ds)

abbrev pub list_of : {A : Type 0} → (Data → Option A) → Data → Option (List A)
list_of read d = as_array d >>= each read

abbrev pub texts : {A : Type 0} → (List ℕ → Option A) → Data → Option (List A)
texts read d = list_of (λ e. as_str e >>= read) d

abbrev pub table_of : {A : Type 0} → (Members → Option A) → Data → Option A
table_of read d = as_table d >>= read

-- the meaning of a text by a list of words
abbrev pub one_of : {A : Type 0} → List (List ℕ × A) → List ℕ → Option A
one_of [] t = None
one_of (x ∷ xs) t = if bytes_eq x.0 t then Some x.1 else one_of xs t
