-- Private. The setup of a night, and why none is made.
use Rattle.std.specs.Prelude.{◌≡◌, ◌≢◌, ⊤, ℕ, List, [], None, Some, length, map}
use Rattle.guide_toml.specs.FileBytes.{IsFaultOf, IsGuideFaultOf}
use Rattle.guide_tree.specs.declared.rows.GuideRows.{GuideRows}
use Rattle.hub_ledger.specs.declared.entry.NightEntry.{NightEntry}
use Rattle.night_entries.specs.Entry.{AreCounters, IsSetup}
use Rattle.night_shelf.specs.declared.night.NightFile.{NightFile}
use Rattle.night_batches.specs.declared.night.Night.{Night}
use Rattle.partner_setup.specs.CountersFile.{counters_of_table}
use Rattle.partner_setup.specs.Setup.{SetupValue, setup_of}
use Rattle.partner_setup.specs.SetupFaults.{first_fault}
use Rattle.partner_setup.specs.SetupFile.{setup_of_table}
use Rattle.partner_setup.specs.declared.partner.Partner.{Partner}
use Rattle.partner_setup.specs.declared.rows.CounterRow.{CounterRow}
use Rattle.partner_setup.specs.declared.rows.PartnerRow.{PartnerRow}
use Rattle.partner_setup.specs.declared.rows.SetupRows.{SetupRows}
use Rattle.hub_tonight.specs.Begun.{begun_row}
use Rattle.hub_tonight.specs.Files.{AreFirst, AreGuides}
use Rattle.hub_tonight.specs.Stopped.{IsGuideRefused}
use Rattle.hub_tonight.specs.declared.call.HubFiles.{HubFiles}
use Rattle.hub_tonight.specs.declared.made.Made.{Made}
use Rattle.hub_tonight.specs.declared.stopped.Stopped.{Stopped}
use Rattle.hub_tonight.specs.declared.stopped.Stopped.TheVariants as stopped

-- out of memory, or the file, whose reader refuses its bytes
abbrev pub IsOfGuide : (place : ℕ) → (bytes : List ℕ) → Stopped → Type 0
IsOfGuide place bytes stopped.Memory = ⊤
IsOfGuide place bytes (stopped.Guide other fault) = (other ≡ place) × IsGuideFaultOf bytes fault
IsOfGuide place bytes _ = ⊥

abbrev pub IsOfGuides : List NightFile → Stopped → Type 0
IsOfGuides files stopped.Memory = ⊤
IsOfGuides files (stopped.Guide place fault) = IsGuideRefused files place fault
IsOfGuides files _ = ⊥

abbrev pub IsOfSetup : (bytes : List ℕ) → Stopped → Type 0
IsOfSetup bytes stopped.Memory = ⊤
IsOfSetup bytes (stopped.SetupFile fault) = IsFaultOf setup_of_table bytes fault
IsOfSetup bytes _ = ⊥

abbrev pub IsOfFirst : (bytes : List ℕ) → Stopped → Type 0
IsOfFirst bytes stopped.Memory = ⊤
IsOfFirst bytes (stopped.FirstCounters fault) = (bytes ≢ []) × IsFaultOf counters_of_table bytes fault
IsOfFirst bytes _ = ⊥

abbrev pub IsOfAll : SetupRows → List CounterRow → List GuideRows → Stopped → Type 0
IsOfAll rows begun guides stopped.Memory = ⊤
IsOfAll rows begun guides (stopped.Setup fault) = first_fault rows begun guides ≡ Some fault
IsOfAll rows begun guides _ = ⊥

abbrev pub IsOfRun : Stopped → Type 0
IsOfRun stopped.Memory = ⊤
IsOfRun stopped.Thread = ⊤
IsOfRun _ = ⊥

-- the rows are those of the partners, in their order
abbrev pub AreOfPartners : List CounterRow → List PartnerRow → Type 0
AreOfPartners rows partners = map (λ (row : CounterRow). row.partner) rows ≡ map (λ (p : PartnerRow). p.name) partners

-- the setup that rows, counters and guides make, of which nothing is refused
pub record IsSetupBy (rows : SetupRows) (begun : List CounterRow) (guides : List GuideRows) (setup : SetupValue) : Type 0 where
  pub accepted : first_fault rows begun guides ≡ None
  pub setup_is : setup ≡ setup_of rows begun guides

-- the same, and the text of the counters
pub record IsBuilt (rows : SetupRows) (begun : List CounterRow) (guides : List GuideRows) (made : Made) : Type 0 where
  pub setup_by : IsSetupBy rows begun guides made.setup
  pub counters_are : AreCounters made.counters begun

-- the same of the files of a hub
pub record IsMade (files : HubFiles) (older : List NightEntry) (first : List ℕ) (made : Made) : Type 0 where
  pub guides : List GuideRows
  pub guides_are : AreGuides files.guides.now guides
  pub rows : SetupRows
  pub setup_is : IsSetup files.setup.now rows
  pub first_rows : List CounterRow
  pub first_is : AreFirst first first_rows
  pub built : IsBuilt rows (map (begun_row older first_rows) rows.partners) guides made

-- a night has texts and numbers for each partner
pub record AreForPartners (partners : List Partner) (night : Night) : Type 0 where
  pub acks : length night.acks ≡ length partners
  pub boxes : length night.boxes ≡ length partners
  pub next : length night.next ≡ length partners
