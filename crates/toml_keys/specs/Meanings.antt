-- Files of tables (own): what an error says of the table that was read.
use Rattle.std.specs.Prelude.{◌≡◌, Result, Ok, Err}
use Rattle.toml_keys.specs.Refusals.{Refusal}

-- the first thing that is wrong with the table; that memory ran out; something that no table shows
pub data Meaning : Type 0 where
  refuses : Refusal → Meaning
  no_memory : Meaning
  other : Meaning

abbrev pub FailsAs : {Y : Type 0} → Meaning → Result Y Refusal → Type 0
FailsAs (refuses r) read = read ≡ Err r
FailsAs no_memory read = Unit {0}
FailsAs other read = ⊥

-- what was returned, seen by view, is what reading gives, unless memory ran out
abbrev pub GivesAs : {E X Y : Type 0} → (E → Meaning) → (X → Y) → Result X E → Result Y Refusal → Type 0
GivesAs meaning view (Ok x) read = read ≡ Ok (view x)
GivesAs meaning view (Err e) read = FailsAs (meaning e) read
