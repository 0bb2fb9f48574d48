-- Why no night is made (own): the first file that is refused, in the order guides, setup file and first counters, or what they make
-- together; or an input that is too long. That the system refused memory or a thread says nothing of them.
use Rattle.std.specs.Prelude.{◌≡◌, ◌<◌, ◌≢◌, ⊤, ℕ, List, [], Some, length, map, slice_get, take}
use Rattle.guide_toml.specs.FileBytes.{IsFaultOf, IsGuideFaultOf}
use Rattle.guide_toml.specs.declared.fault.GuideFileFault.{GuideFileFault}
use Rattle.guide_tree.specs.declared.rows.GuideRows.{GuideRows}
use Rattle.hub_kinds.specs.declared.limits.TheConstants.{LONGEST_TEXT}
use Rattle.hub_ledger.specs.declared.entry.NightEntry.{NightEntry}
use Rattle.night_entries.specs.Entry.{IsSetup}
use Rattle.night_shelf.specs.declared.night.NightFile.{NightFile}
use Rattle.partner_setup.specs.CountersFile.{counters_of_table}
use Rattle.partner_setup.specs.SetupFaults.{first_fault}
use Rattle.partner_setup.specs.SetupFile.{setup_of_table}
use Rattle.partner_setup.specs.declared.rows.CounterRow.{CounterRow}
use Rattle.partner_setup.specs.declared.rows.SetupRows.{SetupRows}
use Rattle.partner_setup.specs.declared.setup_fault.SetupFault.{SetupFault}
use Rattle.toml_keys.specs.declared.file_fault.FileFault.{FileFault}
use Rattle.hub_tonight.specs.Begun.{begun_row}
use Rattle.hub_tonight.specs.Files.{AreFirst, AreGuides}
use Rattle.hub_tonight.specs.declared.call.HubFiles.{HubFiles}
use Rattle.hub_tonight.specs.declared.stopped.Stopped.{Stopped}
use Rattle.hub_tonight.specs.declared.stopped.Stopped.TheVariants as stopped

-- the guide at this place, counted from 0, is the first that is refused
pub record IsGuideRefused (files : List NightFile) (place : ℕ) (fault : GuideFileFault) : Type 0 where
  pub before : List GuideRows
  pub taken : AreGuides (take place files) before
  pub file : NightFile
  pub stands : slice_get files place ≡ Some file
  pub refused : IsGuideFaultOf file.bytes fault

-- the setup file is refused after the guides
pub record IsSetupRefused (files : HubFiles) (fault : FileFault) : Type 0 where
  pub guides : List GuideRows
  pub guides_are : AreGuides files.guides.now guides
  pub refused : IsFaultOf setup_of_table files.setup.now fault

-- the first counters file is refused after the setup file
pub record IsFirstRefused (files : HubFiles) (first : List ℕ) (fault : FileFault) : Type 0 where
  pub guides : List GuideRows
  pub guides_are : AreGuides files.guides.now guides
  pub rows : SetupRows
  pub setup_is : IsSetup files.setup.now rows
  pub some : first ≢ []
  pub refused : IsFaultOf counters_of_table first fault

-- the files are each taken, but not together
pub record AreRefused (files : HubFiles) (older : List NightEntry) (first : List ℕ) (fault : SetupFault) : Type 0 where
  pub guides : List GuideRows
  pub guides_are : AreGuides files.guides.now guides
  pub rows : SetupRows
  pub setup_is : IsSetup files.setup.now rows
  pub first_rows : List CounterRow
  pub first_is : AreFirst first first_rows
  pub refused : first_fault rows (map (begun_row older first_rows) rows.partners) guides ≡ Some fault

abbrev pub IsStopped : HubFiles → (older : List NightEntry) → (first input : List ℕ) → Stopped → Type 0
IsStopped files older first input (stopped.Guide place fault) = IsGuideRefused files.guides.now place fault
IsStopped files older first input (stopped.SetupFile fault) = IsSetupRefused files fault
IsStopped files older first input (stopped.FirstCounters fault) = IsFirstRefused files first fault
IsStopped files older first input (stopped.Setup fault) = AreRefused files older first fault
IsStopped files older first input stopped.InputTooLong = LONGEST_TEXT < length input
IsStopped files older first input stopped.Thread = ⊤
IsStopped files older first input stopped.Memory = ⊤
