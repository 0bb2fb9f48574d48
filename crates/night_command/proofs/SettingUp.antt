-- The failure by which the bytes of a file are refused.
use Rattle.std.proofs.Common.{◌≡◌, ◌≢◌, inl, inr, ℕ, List, Option, Some, Err}
use Rattle.std.proofs.Common.{refl, subst}
use Rattle.std.specs.Borrow.{Bor}
use Rattle.guide_tree.specs.declared.rows.GuideRows.{GuideRows}
use Rattle.guide_tree.specs.declared.fault.GuideFault.{GuideFault}
use Rattle.guide_tree.specs.declared.fault.GuideFault.TheVariants as own
use Rattle.guide_toml.specs.Answers.{Answers}
use Rattle.guide_toml.specs.Guides.{guide_of_table}
use Rattle.guide_toml.specs.declared.fault.GuideFileFault.{GuideFileFault}
use Rattle.guide_toml.specs.declared.fault.GuideFileFault.TheVariants as fault
use Rattle.toml_keys.specs.Answers.{Gives}
use Rattle.toml_keys.specs.declared.file_fault.FileFault.{FileFault}
use Rattle.toml_keys.specs.declared.file_fault.FileFault.TheVariants as file
use Rattle.partner_setup.specs.CountersFile.{counters_of_table}
use Rattle.partner_setup.specs.SetupFile.{setup_of_table}
use Rattle.partner_setup.specs.declared.rows.CounterRow.{CounterRow}
use Rattle.partner_setup.specs.declared.rows.SetupRows.{SetupRows}
use Rattle.night_command.specs.Failure.{counters_failure, guide_failure, own_failure, setup_file_failure}
use Rattle.guide_toml.proofs.ForAbove.{SaysNone, SaysOf, fault_is, guide_fault_is}
use Rattle.night_command.specs.SetupFiles.{IsFileRefused, IsGuideRefused}
use Rattle.night_command.specs.SetupFiles.{IsMemoryOrIs, IsOfCounters, IsOfGuide, IsOfSetupFile, path_of}
use Rattle.night_command.specs.FileAt.{FileValue}

own_fails : (file : FileValue) (path : Bor (List ℕ)) (f : GuideFault) → path_of file ≡ path.now
    → IsGuideRefused file.bytes (Some (fault.Guide f)) → IsMemoryOrIs (IsOfGuide file) (own_failure path f)
own_fails file path own.NoMemory at is = inl refl
own_fails file path own.TooDeep at is = inr (at, is)
own_fails file path own.TooMany at is = inr (at, is)
own_fails file path (own.BadBounds k) at is = inr (at, is)
own_fails file path (own.BadTrigger k) at is = inr (at, is)
own_fails file path (own.Ambiguous a b) at is = inr (at, is)
own_fails file path (own.BadCondition k) at is = inr (at, is)

refused_guide : (file : FileValue) (path : Bor (List ℕ)) (f : GuideFileFault) → path_of file ≡ path.now
    → (f ≢ fault.NoMemory → IsGuideRefused file.bytes (Some f)) → IsMemoryOrIs (IsOfGuide file) (guide_failure path f)
refused_guide file path fault.NoMemory at is = inl refl
refused_guide file path fault.NotToml at is = inr (at, is (λ e. cc))
refused_guide file path (fault.Missing k slot) at is = inr (at, is (λ e. cc))
refused_guide file path (fault.WrongKind k slot) at is = inr (at, is (λ e. cc))
refused_guide file path (fault.Unknown k slot) at is = inr (at, is (λ e. cc))
refused_guide file path (fault.Guide f) at is = own_fails file path f at (is (λ e. cc))

pub guide_fails : (file : FileValue) (path : Bor (List ℕ)) (bytes : List ℕ) (f : GuideFileFault) → Some bytes ≡ file.bytes
    → path_of file ≡ path.now → SaysOf bytes (λ t. Answers (Err f) (guide_of_table t))
    → SaysNone GuideRows GuideFileFault bytes fault.NotToml fault.NoMemory (Err f) → IsMemoryOrIs (IsOfGuide file) (guide_failure path f)
guide_fails file path bytes f is at table toml =
    refused_guide file path f at
    (λ memory. subst (λ (b : Option (List ℕ)). IsGuideRefused b (Some f)) is (guide_fault_is bytes f table toml memory))

refused_setup : (from : Option (List ℕ)) (f : FileFault) → (f ≢ file.NoMemory → IsFileRefused setup_of_table from (Some f))
    → IsMemoryOrIs (IsOfSetupFile from) (setup_file_failure f)
refused_setup from file.NoMemory is = inl refl
refused_setup from file.NotToml is = inr (is (λ e. cc))
refused_setup from (file.Missing k) is = inr (is (λ e. cc))
refused_setup from (file.WrongKind k) is = inr (is (λ e. cc))
refused_setup from (file.Unknown k) is = inr (is (λ e. cc))

pub setup_file_fails : (from : Option (List ℕ)) (bytes : List ℕ) (f : FileFault) → Some bytes ≡ from
    → SaysOf bytes (λ t. Gives (Err f) (setup_of_table t)) → SaysNone SetupRows FileFault bytes file.NotToml file.NoMemory (Err f)
    → IsMemoryOrIs (IsOfSetupFile from) (setup_file_failure f)
setup_file_fails from bytes f is table toml =
    refused_setup from f
    (λ memory. subst (λ (b : Option (List ℕ)). IsFileRefused setup_of_table b (Some f)) is
    (fault_is setup_of_table bytes f table toml memory))

refused_counters : (from : Option (List ℕ)) (f : FileFault) → (f ≢ file.NoMemory → IsFileRefused counters_of_table from (Some f))
    → IsMemoryOrIs (IsOfCounters from) (counters_failure f)
refused_counters from file.NoMemory is = inl refl
refused_counters from file.NotToml is = inr (is (λ e. cc))
refused_counters from (file.Missing k) is = inr (is (λ e. cc))
refused_counters from (file.WrongKind k) is = inr (is (λ e. cc))
refused_counters from (file.Unknown k) is = inr (is (λ e. cc))

pub counters_fail : (from : Option (List ℕ)) (bytes : List ℕ) (f : FileFault) → Some bytes ≡ from
    → SaysOf bytes (λ t. Gives (Err f) (counters_of_table t))
    → SaysNone (List CounterRow) FileFault bytes file.NotToml file.NoMemory (Err f) → IsMemoryOrIs (IsOfCounters from) (counters_failure f)
counters_fail from bytes f is table toml =
    refused_counters from f
    (λ memory. subst (λ (b : Option (List ℕ)). IsFileRefused counters_of_table b (Some f)) is
    (fault_is counters_of_table bytes f table toml memory))
