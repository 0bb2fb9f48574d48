-- Why nothing is kept of a night (own): its first file that isn't what a night leaves. Out of memory says nothing of the files.
use Rattle.std.specs.Prelude.{◌≡◌, ◌≢◌, ◌⊎◌, ⊤, ℕ, false, List, [], ◌∷◌, ◌++◌, Result, take}
use Rattle.std.specs.List.{flat_map, list_all}
use Rattle.toml.specs.Data.{Members}
use Rattle.csv.specs.Reading.{AreRecords, default_config, strip_bom}
use Rattle.csv.specs.declared.parser.State.TheVariants as st
use Rattle.toml_keys.specs.Refusals.{Refusal}
use Rattle.toml_keys.specs.declared.file_fault.FileFault.{FileFault}
use Rattle.guide_toml.specs.FileBytes.{IsFaultOf}
use Rattle.partner_setup.specs.CountersFile.{counters_of_table}
use Rattle.partner_setup.specs.SetupFile.{setup_of_table}
use Rattle.partner_setup.specs.declared.rows.CounterRow.{CounterRow}
use Rattle.partner_setup.specs.declared.rows.SetupRows.{SetupRows}
use Rattle.night_entries.specs.Again.{IsNoTable}
use Rattle.night_entries.specs.Entry.{AreCounters, IsSetup}
use Rattle.night_entries.specs.Files.{sum_line}
use Rattle.night_entries.specs.Good.{has_byte, is_moment, is_row, is_sum_line}
use Rattle.night_entries.specs.Keys.{receiver_named}
use Rattle.night_entries.specs.Rows.{address_rows}
use Rattle.night_entries.specs.declared.entry.Papers.{Papers}
use Rattle.night_entries.specs.declared.fault.EntryFault.{EntryFault}
use Rattle.night_entries.specs.declared.fault.EntryFault.TheVariants as fault
use Rattle.night_entries.specs.declared.fault.Paper.{Paper}
use Rattle.night_entries.specs.declared.fault.Paper.TheVariants as paper
use Rattle.night_entries.specs.declared.files.NamedSum.{NamedSum}

-- a setup or a counters file that is refused
abbrev pub IsFileRefused : {A : Type 0} → (Members → Result A Refusal) → (bytes : List ℕ) → Type 0
IsFileRefused read bytes = (f : FileFault) × IsFaultOf read bytes f

-- after some lines of sums, a line that isn't one, or one without a line feed
pub record HasBadSum (text : List ℕ) : Type 0 where
  pub sums : List NamedSum
  pub line : List ℕ
  pub left : List ℕ
  pub text_is : text ≡ flat_map sum_line sums ++ (line ++ left)
  pub one_line : has_byte 10 line ≡ false
  pub bad : ((left ≡ []) × (line ≢ [])) ⊎ ((take 1 left ≡ 10 ∷ []) × (is_sum_line line ≡ false))

-- a row of the table isn't one of a night by these partners
pub record HasBadRow (papers : Papers) : Type 0 where
  pub setup : SetupRows
  pub begun : List CounterRow
  pub left : List CounterRow
  pub table : List (List (List ℕ))
  pub setup_is : IsSetup papers.setup.now setup
  pub begun_is : AreCounters papers.counters.now begun
  pub left_is : AreCounters papers.next_counters.now left
  pub table_is : AreRecords default_config st.StartRecord (strip_bom papers.track.now) table
  pub bad : list_all (is_row papers.input.now (receiver_named (address_rows begun left setup.partners))) table ≡ false

-- a file that isn't what a night leaves
abbrev pub IsRefused : Papers → Paper → Type 0
IsRefused papers paper.Moment = is_moment papers.moment.now ≡ false
IsRefused papers paper.Setup = IsFileRefused setup_of_table papers.setup.now
IsRefused papers paper.Counters = IsFileRefused counters_of_table papers.counters.now
IsRefused papers paper.NextCounters = IsFileRefused counters_of_table papers.next_counters.now
IsRefused papers paper.Sums = HasBadSum papers.sums.now
IsRefused papers paper.Track = HasBadRow papers
IsRefused papers paper.Again = IsNoTable papers.again.now

abbrev pub IsEntryFault : Papers → EntryFault → Type 0
IsEntryFault papers fault.Memory = ⊤
IsEntryFault papers (fault.Unreadable file) = IsRefused papers file
