-- The check (own): what is said of a file where all is asked for: what is wrong with each of its tables, rows and nodes by itself.
use Rattle.std.specs.Prelude.{◌≡◌, ◌⊎◌, ⊤, ℕ, List, [], ◌∷◌, length, Option, None, Some, Result, Ok}
use Rattle.toml.specs.Data.{Members}
use Rattle.guide_tree.specs.declared.rows.GuideRows.{GuideRows}
use Rattle.guide_tree.specs.Words.{GuideTree, numbered}
use Rattle.guide_toml.specs.Guides.{guide_of_table}
use Rattle.guide_toml.specs.declared.fault.GuideFileFault.{GuideFileFault}
use Rattle.guide_toml.specs.declared.fault.GuideFileFault.TheVariants as fault
use Rattle.toml_keys.specs.Refusals.{Refusal}
use Rattle.toml_keys.specs.declared.file_fault.FileFault.{FileFault}
use Rattle.toml_keys.specs.declared.file_fault.FileFault.TheVariants as file
use Rattle.partner_setup.specs.CountersFile.{counters_of_table}
use Rattle.partner_setup.specs.SetupFile.{setup_of_table}
use Rattle.key_errors.specs.KeysSaid.{counters_keys_said, guide_keys_said, setup_keys_said}
use Rattle.setup_errors.specs.NodesSaid.{node_faults}
use Rattle.setup_errors.specs.RowsSaid.{counters_said, setup_said}
use Rattle.check_command.specs.Files.{in_order}
use Rattle.guide_toml.specs.FileBytes.{HasTable, IsFaultOf, IsFileOf, IsGuideFaultOf, IsGuideOf}
use Rattle.check_command.specs.declared.files.Given.{Given}
use Rattle.check_command.specs.declared.files.GivenFiles.{GivenFiles}

abbrev pub Sentences : Type 0
Sentences = List (List ℕ)

-- a text for each fault of the nodes of a guide that bytes write
abbrev pub AreNodesSaid : (bytes : List ℕ) → Sentences → Type 0
AreNodesSaid bytes said =
    (guide : GuideTree) × HasTable bytes (λ t. guide_of_table t ≡ Ok guide) × (length said ≡ length (node_faults (numbered 1 guide.nodes)))

-- after such a refusal of a guide file: of its keys, or of its nodes
abbrev pub IsGuideFurther : (bytes : List ℕ) → GuideFileFault → Sentences → Type 0
IsGuideFurther bytes fault.NotToml said = said ≡ []
IsGuideFurther bytes (fault.Guide own) said = AreNodesSaid bytes said
IsGuideFurther bytes refusal said = HasTable bytes (λ t. said ≡ guide_keys_said t)

-- nothing is said of a guide that is taken, or of a file that can't be read
abbrev pub IsSaidOfGuide : Option (List ℕ) → Sentences → Type 0
IsSaidOfGuide None said = said ≡ []
IsSaidOfGuide (Some bytes) said =
    ((guide : GuideRows) × IsGuideOf (Some bytes) guide × (said ≡ []))
    ⊎ ((refusal : GuideFileFault) × IsGuideFaultOf bytes refusal × IsGuideFurther bytes refusal said)

-- after a refusal of another file: of its keys
abbrev pub IsFileFurther : (Members → Sentences) → (bytes : List ℕ) → FileFault → Sentences → Type 0
IsFileFurther keys bytes file.NotToml said = said ≡ []
IsFileFurther keys bytes refusal said = HasTable bytes (λ t. said ≡ keys t)

-- of its rows, where it is read
abbrev pub IsSaidOfFile : {A : Type 0} → (Members → Result A Refusal) → (keys : Members → Sentences) → (rows : A → Sentences)
    → Option (List ℕ) → Sentences → Type 0
IsSaidOfFile {A = A} read keys rows None said = said ≡ []
IsSaidOfFile {A = A} read keys rows (Some bytes) said =
    ((own : A) × IsFileOf read (Some bytes) own × (said ≡ rows own))
    ⊎ ((refusal : FileFault) × IsFaultOf read bytes refusal × IsFileFurther keys bytes refusal said)

abbrev pub IsSaidOfSetup : Option (List ℕ) → Sentences → Type 0
IsSaidOfSetup bytes said = IsSaidOfFile setup_of_table setup_keys_said setup_said bytes said

abbrev pub IsSaidOfCounters : Option (List ℕ) → Sentences → Type 0
IsSaidOfCounters bytes said = IsSaidOfFile counters_of_table counters_keys_said (counters_said 1) bytes said

abbrev pub AreSaidOfGuides : List Given → List Sentences → Type 0
AreSaidOfGuides [] [] = ⊤
AreSaidOfGuides [] (s ∷ ss) = ⊥
AreSaidOfGuides (f ∷ fs) [] = ⊥
AreSaidOfGuides (f ∷ fs) (s ∷ ss) = IsSaidOfGuide f.bytes s × AreSaidOfGuides fs ss

-- the same of a file that is optional
abbrev pub IsSomeSaid : (Option (List ℕ) → Sentences → Type 0) → Option Given → Option Sentences → Type 0
IsSomeSaid P None None = ⊤
IsSomeSaid P None (Some said) = ⊥
IsSomeSaid P (Some f) None = ⊥
IsSomeSaid P (Some f) (Some said) = P f.bytes said

-- of all files, in their order
pub record AreSaid (given : GivenFiles) (all : List Sentences) : Type 0 where
  pub guides : List Sentences
  pub setup : Option Sentences
  pub counters : Option Sentences
  pub order : all ≡ in_order guides setup counters
  pub of_guides : AreSaidOfGuides given.guides guides
  pub of_setup : IsSomeSaid IsSaidOfSetup given.setup setup
  pub of_counters : IsSomeSaid IsSaidOfCounters given.counters counters
