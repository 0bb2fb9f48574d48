-- Files of tables (own): what is at the keys of a table, and the first fault.
use Rattle.std.specs.Prelude.{ℕ, ℤ, pos, negsuc, List, [], ◌∷◌, Option, Some, None, Result, Ok, Err, Bool, true, ◌&&◌, nat_le}
use Rattle.std.specs.Prelude.{if◌then◌else◌, option_map, option_and_then, is_some}
use Rattle.toml.specs.Data.{Data, Items, no_items, item, Members, get_member, as_str, as_integer, as_array, as_table}
use Rattle.hub_kinds.specs.Words.{is_word}
use Rattle.toml_keys.specs.Refusals.{Refusal, missing, wrong_kind}
use Rattle.toml_keys.specs.declared.values.TheConstants.{GREATEST_NUMBER}

infixl 10 ◌>>=◌
abbrev pub ◌>>=◌ : {A B : Type 0} → Result A Refusal → (A → Result B Refusal) → Result B Refusal
(Ok x) >>= f = f x
(Err e) >>= f = Err e

-- what is read at a key
abbrev pub asked : {A : Type 0} → List ℕ → Option A → Result A Refusal
asked key None = Err (wrong_kind key)
asked key (Some x) = Ok x

abbrev pub required_of : {A : Type 0} → (Data → Option A) → List ℕ → Option Data → Result A Refusal
required_of read key None = Err (missing key)
required_of read key (Some d) = asked key (read d)

-- a key that must be there
abbrev pub required : {A : Type 0} → (Data → Option A) → List ℕ → Members → Result A Refusal
required read key ms = required_of read key (get_member key ms)

abbrev pub optional_of : {A : Type 0} → A → (Data → Option A) → List ℕ → Option Data → Result A Refusal
optional_of absent read key None = Ok absent
optional_of absent read key (Some d) = asked key (read d)

-- a key that may be absent, and what means it then
abbrev pub optional : {A : Type 0} → A → (Data → Option A) → List ℕ → Members → Result A Refusal
optional absent read key ms = optional_of absent read key (get_member key ms)

-- what is there is something
abbrev pub value_present : {A : Type 0} → (Data → Option A) → Data → Option (Option A)
value_present read d = option_map Some (read d)

-- a text of that many to that many letters or digits
abbrev pub word_in : ℕ → ℕ → Data → Option (List ℕ)
word_in least most d = option_and_then (λ s. if is_word least most s then Some s else None) (as_str d)

abbrev pub some_word_in : ℕ → ℕ → Data → Option (Option (List ℕ))
some_word_in least most d = value_present (word_in least most) d

-- 0 to 4,294,967,295
abbrev pub count_of_integer : ℤ → Option ℕ
count_of_integer (pos n) = if nat_le n GREATEST_NUMBER then Some n else None
count_of_integer (negsuc n) = None

abbrev pub count_of_data : Data → Option ℕ
count_of_data d = option_and_then count_of_integer (as_integer d)

-- each item of a list
abbrev pub each_item : {A : Type 0} → (Data → Option A) → Items → Option (List A)
each_item read no_items = Some []
each_item read (item d ds) = option_and_then (λ x. option_map (λ xs. x ∷ xs) (each_item read ds)) (read d)

-- a list, each item of which is read
abbrev pub list_in : {A : Type 0} → (Data → Option A) → Data → Option (List A)
list_in read d = option_and_then (each_item read) (as_array d)

abbrev pub are_tables : Items → Bool
are_tables no_items = true
are_tables (item d ds) = is_some (as_table d) && are_tables ds

-- a list of tables
abbrev pub tables_in : Data → Option Items
tables_in d = option_and_then (λ ds. if are_tables ds then Some ds else None) (as_array d)

-- a table that may be absent
abbrev pub some_table : Data → Option (Option Members)
some_table d = if is_some (as_table d) then Some (as_table d) else None
