-- The files of a setup (own): what the bytes of each say, the setup that they make together, and the first refusal where they make none.
-- A file that can't be read has no bytes.
use Rattle.std.specs.Prelude.{◌≡◌, ◌≢◌, ◌⊎◌, ⊤, ℕ, List, [], ◌∷◌, map, Option, None, Some, Result, IsErr, IsOkAnd}
use Rattle.std.specs.declared.io.ErrorKind.{ErrorKind}
use Rattle.std.specs.declared.io.ErrorKind.TheVariants.{OutOfMemory}
use Rattle.toml.specs.Data.{Members}
use Rattle.guide_tree.specs.declared.rows.GuideRows.{GuideRows}
use Rattle.toml_keys.specs.Refusals.{Refusal}
use Rattle.guide_toml.specs.declared.fault.GuideFileFault.{GuideFileFault}
use Rattle.guide_toml.specs.FileBytes.{IsFaultOf, IsFileOf, IsGuideFaultOf, IsGuideOf}
use Rattle.partner_setup.specs.CountersFile.{counters_of_table}
use Rattle.partner_setup.specs.Setup.{SetupValue, setup_of}
use Rattle.partner_setup.specs.SetupFaults.{first_fault}
use Rattle.partner_setup.specs.SetupFile.{setup_of_table}
use Rattle.toml_keys.specs.declared.file_fault.FileFault.{FileFault}
use Rattle.partner_setup.specs.declared.rows.CounterRow.{CounterRow}
use Rattle.partner_setup.specs.declared.rows.SetupRows.{SetupRows}
use Rattle.night_command.specs.declared.failure.Failure.{Failure}
use Rattle.night_command.specs.declared.failure.Failure.TheVariants as failure
use Rattle.night_command.specs.FileAt.{FileValue}
use Rattle.night_command.specs.declared.setup_files.SetupFiles.{SetupFiles}

-- why a file writes none; none represents the refusal of one that can't be read
abbrev pub IsFileRefused : {A : Type 0} → (Members → Result A Refusal) → Option (List ℕ) → Option FileFault → Type 0
IsFileRefused read None None = ⊤
IsFileRefused read None (Some refusal) = ⊥
IsFileRefused read (Some bytes) None = ⊥
IsFileRefused read (Some bytes) (Some refusal) = IsFaultOf read bytes refusal

-- why a guide file writes none
abbrev pub IsGuideRefused : Option (List ℕ) → Option GuideFileFault → Type 0
IsGuideRefused None None = ⊤
IsGuideRefused None (Some refusal) = ⊥
IsGuideRefused (Some bytes) None = ⊥
IsGuideRefused (Some bytes) (Some refusal) = IsGuideFaultOf bytes refusal

abbrev pub path_of : FileValue → List ℕ
path_of file = file.path

-- the guides of all guide files, in their order
abbrev pub AreGuidesOf : List FileValue → List GuideRows → Type 0
AreGuidesOf [] [] = ⊤
AreGuidesOf [] (g ∷ gs) = ⊥
AreGuidesOf (f ∷ fs) [] = ⊥
AreGuidesOf (f ∷ fs) (g ∷ gs) = IsGuideOf f.bytes g × AreGuidesOf fs gs

-- the first guide file that writes none, and why
abbrev pub IsFirstGuideRefused : List FileValue → (path : List ℕ) → Option GuideFileFault → Type 0
IsFirstGuideRefused [] path refusal = ⊥
IsFirstGuideRefused (f ∷ fs) path refusal =
    ((path_of f ≡ path) × IsGuideRefused f.bytes refusal)
    ⊎ ((g : GuideRows) × IsGuideOf f.bytes g × IsFirstGuideRefused fs path refusal)

-- what the files write where none is refused: the guides, then the setup file's rows, then those of the counters file
abbrev pub AreRead : SetupFiles → List GuideRows → SetupRows → List CounterRow → Type 0
AreRead files guides rows counters =
    AreGuidesOf files.guides guides × IsFileOf setup_of_table files.setup.bytes rows
    × IsFileOf counters_of_table files.counters.bytes counters

-- the setup that the files make
pub record IsSetupOf (files : SetupFiles) (setup : SetupValue) : Type 0 where
  pub guides : List GuideRows
  pub rows : SetupRows
  pub counters : List CounterRow
  pub read : AreRead files guides rows counters
  pub accepted : first_fault rows counters guides ≡ None
  pub made : setup ≡ setup_of rows counters guides

-- the first refusal, in the order in which the files are read: the guides, the setup file, the counters file; then that of the setup
abbrev pub IsFirstRefusal : SetupFiles → Failure → Type 0
IsFirstRefusal files (failure.Guide path refusal) = IsFirstGuideRefused files.guides path.now refusal
IsFirstRefusal files (failure.SetupFile refusal) =
    (guides : List GuideRows) × AreGuidesOf files.guides guides × IsFileRefused setup_of_table files.setup.bytes refusal
IsFirstRefusal files (failure.CountersFile refusal) =
    (guides : List GuideRows) × (rows : SetupRows) × AreGuidesOf files.guides guides × IsFileOf setup_of_table files.setup.bytes rows
    × IsFileRefused counters_of_table files.counters.bytes refusal
IsFirstRefusal files (failure.Setup refusal) =
    (guides : List GuideRows) × (rows : SetupRows) × (counters : List CounterRow) × AreRead files guides rows counters
    × (first_fault rows counters guides ≡ Some refusal)
IsFirstRefusal files _ = ⊥

-- out of memory, or this
abbrev pub IsMemoryOrIs : (Failure → Type 0) → Failure → Type 0
IsMemoryOrIs P failed = (failed ≡ failure.Memory) ⊎ P failed

abbrev pub paths_of : SetupFiles → List (List ℕ)
paths_of files = map path_of files.guides

-- these files were asked for by these paths: those of the guides, of the setup file, of the counters file
pub record AreAt (files : SetupFiles) (guides : List (List ℕ)) (setup counters : List ℕ) : Type 0 where
  pub guides_at : paths_of files ≡ guides
  pub setup_at : path_of files.setup ≡ setup
  pub counters_at : path_of files.counters ≡ counters

-- the setup that some files make which were asked for by these paths
pub record IsSetupAt (guides : List (List ℕ)) (setup counters : List ℕ) (made : SetupValue) : Type 0 where
  pub files : SetupFiles
  pub at : AreAt files guides setup counters
  pub makes : IsSetupOf files made

-- the first refusal of such files
pub record IsRefusedAt (guides : List (List ℕ)) (setup counters : List ℕ) (failed : Failure) : Type 0 where
  pub files : SetupFiles
  pub at : AreAt files guides setup counters
  pub refused : IsFirstRefusal files failed

-- a file that can't be opened has no bytes, but for lack of memory, which says nothing of it
pub record IsUnread {E : Type 0} (kind : ErrorKind) (result : Result FileValue E) : Type 0 where
  pub memory : kind ≡ OutOfMemory → IsErr result
  pub other_fault : kind ≢ OutOfMemory → IsOkAnd result (λ file. file.bytes ≡ None)

-- the same of one file (no public clause cites these)
abbrev pub IsOfGuide : FileValue → Failure → Type 0
IsOfGuide file (failure.Guide path refusal) = (path_of file ≡ path.now) × IsGuideRefused file.bytes refusal
IsOfGuide file _ = ⊥

abbrev pub IsOfGuides : List FileValue → Failure → Type 0
IsOfGuides files (failure.Guide path refusal) = IsFirstGuideRefused files path.now refusal
IsOfGuides files _ = ⊥

abbrev pub IsOfSetupFile : Option (List ℕ) → Failure → Type 0
IsOfSetupFile bytes (failure.SetupFile refusal) = IsFileRefused setup_of_table bytes refusal
IsOfSetupFile bytes _ = ⊥

abbrev pub IsOfCounters : Option (List ℕ) → Failure → Type 0
IsOfCounters bytes (failure.CountersFile refusal) = IsFileRefused counters_of_table bytes refusal
IsOfCounters bytes _ = ⊥
