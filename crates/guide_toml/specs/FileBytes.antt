-- Files of tables (own): what the bytes of a guide file, a setup file or a counters file say. A file that can't be read has no bytes.
use Rattle.std.specs.Prelude.{◌≡◌, ℕ, List, Option, None, Some, Result, Ok, if◌then◌else◌}
use Rattle.std.specs.Str.{is_utf8}
use Rattle.toml.specs.Data.{Members}
use Rattle.toml.specs.Parse.{parse_document}
use Rattle.toml_keys.specs.Answers.{meaning_of}
use Rattle.toml_keys.specs.Meanings.{FailsAs}
use Rattle.toml_keys.specs.Refusals.{Refusal}
use Rattle.toml_keys.specs.declared.file_fault.FileFault.{FileFault}
use Rattle.toml_keys.specs.declared.file_fault.FileFault.TheVariants as file
use Rattle.guide_tree.specs.declared.rows.GuideRows.{GuideRows}
use Rattle.guide_toml.specs.Answers.{Answers, Refuses}
use Rattle.guide_toml.specs.Guides.{guide_of_table}
use Rattle.guide_toml.specs.declared.fault.GuideFileFault.{GuideFileFault}
use Rattle.guide_toml.specs.declared.fault.GuideFileFault.TheVariants as fault

-- the table that bytes write
abbrev pub table_of : (bytes : List ℕ) → Option Members
table_of bytes = if is_utf8 bytes then parse_document bytes else None

-- bytes write a table of which this holds
abbrev pub HasTable : (bytes : List ℕ) → (Members → Type 0) → Type 0
HasTable bytes P = (t : Members) × (table_of bytes ≡ Some t) × P t

-- the rows that a setup file or a counters file writes, where its table is read so
abbrev pub IsFileOf : {A : Type 0} → (Members → Result A Refusal) → Option (List ℕ) → A → Type 0
IsFileOf read None rows = ⊥
IsFileOf read (Some bytes) rows = HasTable bytes (λ t. read t ≡ Ok rows)

-- why its bytes write none: they are no table, or the first fault of the table; out of memory says nothing of them
abbrev pub IsFaultOf : {A : Type 0} → (Members → Result A Refusal) → (bytes : List ℕ) → FileFault → Type 0
IsFaultOf read bytes file.NotToml = table_of bytes ≡ None
IsFaultOf read bytes file.NoMemory = ⊥
IsFaultOf read bytes refusal = HasTable bytes (λ t. FailsAs (meaning_of refusal) (read t))

-- the guide that a guide file writes
abbrev pub IsGuideOf : Option (List ℕ) → GuideRows → Type 0
IsGuideOf None guide = ⊥
IsGuideOf (Some bytes) guide = HasTable bytes (λ t. Answers (Ok guide) (guide_of_table t))

-- why its bytes write none
abbrev pub IsGuideFaultOf : (bytes : List ℕ) → GuideFileFault → Type 0
IsGuideFaultOf bytes fault.NotToml = table_of bytes ≡ None
IsGuideFaultOf bytes fault.NoMemory = ⊥
IsGuideFaultOf bytes refusal = HasTable bytes (λ t. Refuses refusal (guide_of_table t))
