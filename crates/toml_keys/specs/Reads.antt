-- Files of tables (own): how an answer of the program is to the reading of a text.
use Rattle.std.specs.Prelude.{◌≡◌, Option, Some, None, Result, Ok, Err, option_and_then}
use Rattle.toml_keys.specs.declared.text_fault.TextFault.{TextFault}
use Rattle.toml_keys.specs.declared.text_fault.TextFault.TheVariants as fault

-- one reading, and then another of what it gave
infixl 10 ◌>>=◌
abbrev pub ◌>>=◌ : {A B : Type 0} → Option A → (A → Option B) → Option B
o >>= f = option_and_then f o

abbrev pub Lacks : {Y : Type 0} → TextFault → Option Y → Type 0
Lacks fault.Malformed read = read ≡ None
Lacks fault.NoMemory read = Unit {0}

-- what was returned is what reading gives, unless memory ran out
abbrev pub Reads : {X Y : Type 0} → (X → Y) → Result X TextFault → Option Y → Type 0
Reads view (Ok x) read = read ≡ Some (view x)
Reads view (Err e) read = Lacks e read
