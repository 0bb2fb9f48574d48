-- The counters file, versions 1 and 2 (own): the rows that a table writes, and the first fault of one that writes none.
use Rattle.std.specs.Prelude.{ℕ, ◌==◌, List, [], ◌∷◌, codes, Option, Some, None, Result, Ok, Err, if◌then◌else◌, option_and_then}
use Rattle.toml.specs.Data.{Data, table, Items, no_items, Members, as_str}
use Rattle.toml_keys.specs.Refusals.{Refusal, wrong_kind}
use Rattle.toml_keys.specs.Tables.{◌>>=◌, required, optional, count_of_data, tables_in}
use Rattle.partner_setup.specs.declared.rows.CounterRow.{CounterRow}
use Rattle.partner_setup.specs.declared.values.Version.{Version}
use Rattle.partner_setup.specs.declared.values.Version.TheVariants as versions
use Rattle.partner_setup.specs.SetupFile.{known, rows_in}

abbrev pub file_keys : List (List ℕ)
file_keys = codes "version" ∷ codes "counter" ∷ []

-- the keys of a counter, in version 1 and in version 2
abbrev pub first_keys : List (List ℕ)
first_keys = codes "partner" ∷ codes "interchange" ∷ codes "set" ∷ []

abbrev pub second_keys : List (List ℕ)
second_keys = codes "partner" ∷ codes "interchange" ∷ codes "group" ∷ codes "set" ∷ []

-- the number 1 or 2
abbrev pub version_of : ℕ → Option Version
version_of n = if n == 1 then Some versions.First else (if n == 2 then Some versions.Second else None)

abbrev pub version_in : Data → Option Version
version_in d = option_and_then version_of (count_of_data d)

-- in version 1 the group counter is 1
unfoldable pub first_counter_of : Members → Result CounterRow Refusal
first_counter_of ms = do
  partner ← required as_str (codes "partner") ms
  interchange ← required count_of_data (codes "interchange") ms
  set ← required count_of_data (codes "set") ms
  Ok (record { partner = partner; counters = record { interchange = interchange; group = 1; set = set } })

unfoldable pub second_counter_of : Members → Result CounterRow Refusal
second_counter_of ms = do
  partner ← required as_str (codes "partner") ms
  interchange ← required count_of_data (codes "interchange") ms
  group ← required count_of_data (codes "group") ms
  set ← required count_of_data (codes "set") ms
  Ok (record { partner = partner; counters = record { interchange = interchange; group = group; set = set } })

-- a counter, by the version of its file
abbrev pub counter_of : Version → Members → Result CounterRow Refusal
counter_of versions.First ms = known first_keys ms (first_counter_of ms)
counter_of versions.Second ms = known second_keys ms (second_counter_of ms)

abbrev pub counter_in : Version → Data → Result CounterRow Refusal
counter_in v (table ms) = counter_of v ms
counter_in v _ = Err (wrong_kind (codes "counter"))

-- the version, and then the list of counters
unfoldable pub counters_top : Members → Result (Version × Items) Refusal
counters_top ms = do
  number ← required version_in (codes "version") ms
  counters ← optional no_items tables_in (codes "counter") ms
  Ok (number, counters)

-- the counters: the top table's own keys, and then each `counter`
unfoldable pub counters_of_table : Members → Result (List CounterRow) Refusal
counters_of_table ms = known file_keys ms (counters_top ms) >>= λ top. rows_in (counter_in top.0) top.1
