-- The files of a setup (own): what the bytes of each say, and why they are refused. A file that can't be read has no bytes.
use Rattle.std.specs.Prelude.{◌≡◌, ◌⊎◌, ⊤, ℕ, List, [], ◌∷◌, codes, Option, None, Some, Result, Ok}
use Rattle.toml.specs.Data.{Members}
use Rattle.guide_tree.specs.declared.rows.GuideRows.{GuideRows}
use Rattle.guide_tree.specs.declared.fault.GuideFault.{GuideFault}
use Rattle.guide_tree.specs.Words.{GuideTree, numbered}
use Rattle.guide_toml.specs.Guides.{guide_of_table}
use Rattle.guide_toml.specs.declared.fault.GuideFileFault.{GuideFileFault}
use Rattle.guide_toml.specs.declared.fault.GuideFileFault.TheVariants as fault
use Rattle.guide_toml.specs.FileBytes.{HasTable, IsFaultOf, IsFileOf, IsGuideFaultOf, IsGuideOf}
use Rattle.toml_keys.specs.Refusals.{Refusal}
use Rattle.toml_keys.specs.declared.file_fault.FileFault.{FileFault}
use Rattle.toml_keys.specs.declared.file_fault.FileFault.TheVariants as file
use Rattle.partner_setup.specs.CountersFile.{counters_of_table}
use Rattle.partner_setup.specs.declared.rows.CounterRow.{CounterRow}
use Rattle.key_errors.specs.KeyWords.{counters_key_words, guide_key_words}
use Rattle.key_errors.specs.NoTables.{IsNoTableSaid}
use Rattle.setup_errors.specs.GuideWords.{IsGuideSaid}
use Rattle.check_command.specs.declared.files.Given.{Given}

abbrev pub unreadable : List ℕ
unreadable = codes "it can't be read"

-- how a refusal is said, by the file's table
abbrev pub Words : Type 0
Words = Members → FileFault → List ℕ

abbrev pub IsFileSaid : Words → (bytes : List ℕ) → FileFault → (text : List ℕ) → Type 0
IsFileSaid words bytes file.NotToml text = IsNoTableSaid bytes text
IsFileSaid words bytes refusal text = HasTable bytes (λ t. text ≡ words t refusal)

-- the words by which a file is refused that writes no rows
abbrev pub IsFileRefused : {A : Type 0} → (Members → Result A Refusal) → Words → Option (List ℕ) → (text : List ℕ) → Type 0
IsFileRefused read words None text = text ≡ unreadable
IsFileRefused read words (Some bytes) text =
    (refusal : FileFault) × IsFaultOf read bytes refusal × IsFileSaid words bytes refusal text

-- what is said of a guide that the bytes write, by its nodes in their numbers
abbrev pub IsOwnSaid : (bytes : List ℕ) → GuideFault → (text : List ℕ) → Type 0
IsOwnSaid bytes own text =
    (guide : GuideTree) × HasTable bytes (λ t. guide_of_table t ≡ Ok guide) × IsGuideSaid (numbered 1 guide.nodes) own text

-- what is said of a fault of the bytes: of a key by the table that they write
abbrev pub IsSaidOf : (bytes : List ℕ) → GuideFileFault → (text : List ℕ) → Type 0
IsSaidOf bytes fault.NotToml text = IsNoTableSaid bytes text
IsSaidOf bytes (fault.Guide own) text = IsOwnSaid bytes own text
IsSaidOf bytes refusal text = HasTable bytes (λ t. text ≡ guide_key_words t refusal)

-- the words by which a guide file is refused
abbrev pub IsGuideRefused : Option (List ℕ) → (text : List ℕ) → Type 0
IsGuideRefused None text = text ≡ unreadable
IsGuideRefused (Some bytes) text = (refusal : GuideFileFault) × IsGuideFaultOf bytes refusal × IsSaidOf bytes refusal text

-- the guides of all guide files, in their order
abbrev pub AreGuidesOf : List Given → List GuideRows → Type 0
AreGuidesOf [] [] = ⊤
AreGuidesOf [] (g ∷ gs) = ⊥
AreGuidesOf (f ∷ fs) [] = ⊥
AreGuidesOf (f ∷ fs) (g ∷ gs) = IsGuideOf f.bytes g × AreGuidesOf fs gs

-- some guide file is refused
abbrev pub IsSomeRefused : List Given → Type 0
IsSomeRefused [] = ⊥
IsSomeRefused (f ∷ fs) = ((text : List ℕ) × IsGuideRefused f.bytes text) ⊎ IsSomeRefused fs

-- the rows of counters; without a file there are none
abbrev pub AreCountersOf : Option Given → List CounterRow → Type 0
AreCountersOf None counters = counters ≡ []
AreCountersOf (Some f) counters = IsFileOf counters_of_table f.bytes counters

-- the counters file is refused
abbrev pub AreCountersRefused : Option Given → Type 0
AreCountersRefused None = ⊥
AreCountersRefused (Some f) = (text : List ℕ) × IsFileRefused counters_of_table counters_key_words f.bytes text
