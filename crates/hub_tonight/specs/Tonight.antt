-- The night that a hub makes of its files and an input (own).
use Rattle.std.specs.Prelude.{◌≡◌, ℕ, List, None, map}
use Rattle.guide_tree.specs.declared.rows.GuideRows.{GuideRows}
use Rattle.hub_ledger.specs.declared.entry.NightEntry.{NightEntry}
use Rattle.night_command.specs.Outbox.{File}
use Rattle.night_command.specs.Outcome.{last_line}
use Rattle.night_definition.specs.Program.{IsRun}
use Rattle.night_entries.specs.Entry.{AreCounters, IsSetup}
use Rattle.partner_setup.specs.SetupFaults.{first_fault}
use Rattle.partner_setup.specs.declared.rows.CounterRow.{CounterRow}
use Rattle.partner_setup.specs.declared.rows.SetupRows.{SetupRows}
use Rattle.set_documents.specs.Given.{usual}
use Rattle.track_definition.specs.Rows.{table_of}
use Rattle.hub_tonight.specs.Begun.{begun_row}
use Rattle.hub_tonight.specs.Files.{AreFirst, AreGuides, bytes_of, next_rows, out_file}
use Rattle.hub_tonight.specs.declared.call.HubFiles.{HubFiles}
use Rattle.hub_tonight.specs.declared.night.Tonight.{Tonight}

-- The night of an input and a moment, by the files of a hub, what is kept of its older nights, the newest first, and the bytes of a first
-- counters file.
pub record IsTonight (files : HubFiles) (older : List NightEntry) (first input at : List ℕ) (tonight : Tonight) : Type 0 where
  pub rows : SetupRows
  pub setup_is : IsSetup files.setup.now rows
  pub first_rows : List CounterRow
  pub first_is : AreFirst first first_rows
  pub guides : List GuideRows
  pub guides_are : AreGuides files.guides.now guides
  -- nothing of them is refused, together with the counters that the night begins with
  pub accepted : first_fault rows (map (begun_row older first_rows) rows.partners) guides ≡ None
  pub begun : AreCounters tonight.counters (map (begun_row older first_rows) rows.partners)
  -- the definition's run by just these bytes
  pub given : List File
  pub run : IsRun files.setup.now tonight.counters (map bytes_of files.guides.now) at input given tonight.status
  pub out_is : tonight.out ≡ map out_file given
  pub total_is : tonight.total ≡ last_line run.night.report
  pub track_is : tonight.track ≡ table_of input run.setup usual
  pub left_is : tonight.left ≡ next_rows run.setup.partners run.night.next
