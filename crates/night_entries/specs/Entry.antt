-- What is kept of a night, by the bytes of its files (own).
use Rattle.std.specs.Prelude.{◌≡◌, ℕ, List, Ok, true, length}
use Rattle.std.specs.List.{All, flat_map, list_all}
use Rattle.csv.specs.Reading.{AreRecords, default_config, strip_bom}
use Rattle.csv.specs.declared.parser.State.TheVariants as st
use Rattle.guide_toml.specs.FileBytes.{HasTable}
use Rattle.partner_setup.specs.CountersFile.{counters_of_table}
use Rattle.partner_setup.specs.SetupFile.{setup_of_table}
use Rattle.partner_setup.specs.declared.rows.CounterRow.{CounterRow}
use Rattle.partner_setup.specs.declared.rows.SetupRows.{SetupRows}
use Rattle.hub_ledger.specs.declared.entry.NightEntry.{NightEntry}
use Rattle.night_entries.specs.Again.{AreAgainKeys}
use Rattle.night_entries.specs.Files.{files_of, given_names, sum_line}
use Rattle.night_entries.specs.Good.{is_moment, is_row}
use Rattle.night_entries.specs.Keys.{delivered_keys, receiver_named}
use Rattle.night_entries.specs.Rows.{address_rows}
use Rattle.night_entries.specs.declared.entry.Papers.{Papers}
use Rattle.night_entries.specs.declared.files.NamedSum.{NamedSum}

-- bytes that are a setup file, and its rows
abbrev pub IsSetup : List ℕ → SetupRows → Type 0
IsSetup bytes rows = HasTable bytes (λ table. setup_of_table table ≡ Ok rows)

abbrev pub AreCounters : List ℕ → List CounterRow → Type 0
AreCounters bytes rows = HasTable bytes (λ table. counters_of_table table ≡ Ok rows)

-- the entry of a night by its papers, each of which is what a night leaves
pub record IsEntry (papers : Papers) (entry : NightEntry) : Type 0 where
  pub setup : SetupRows
  pub begun : List CounterRow
  pub left : List CounterRow
  pub listed : List NamedSum
  pub table : List (List (List ℕ))
  pub name_is : entry.name ≡ papers.name.now
  pub moment_is : entry.moment ≡ papers.moment.now
  pub moment : is_moment papers.moment.now ≡ true
  pub setup_is : IsSetup papers.setup.now setup
  pub begun_is : AreCounters papers.counters.now begun
  pub left_is : AreCounters papers.next_counters.now left
  pub listed_is : flat_map sum_line listed ≡ papers.sums.now
  pub sums : All (λ (line : NamedSum). length line.sum ≡ 64) listed
  pub table_is : AreRecords default_config st.StartRecord (strip_bom papers.track.now) table
  pub addresses_are : entry.addresses ≡ address_rows begun left setup.partners
  pub rows : list_all (is_row papers.input.now (receiver_named entry.addresses)) table ≡ true
  pub delivered_are : entry.delivered ≡ delivered_keys papers.input.now entry.addresses table
  pub again_are : AreAgainKeys papers.again.now entry.again
  pub files_are : entry.files ≡ files_of (given_names entry.addresses) listed papers.found.now
