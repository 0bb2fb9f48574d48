-- What is said of a file's bytes that are refused, and the table that they write.
use Rattle.std.proofs.Common.{◌≡◌, ◌≢◌, ℕ, List, Option, Some, Result, Ok, Err}
use Rattle.std.proofs.Common.{subst}
use Rattle.std.specs.Str.{IsUtf8}
use Rattle.std.proofs.lemmas.Str.{is_utf8-from_IsUtf8}
use Rattle.toml.specs.Data.{Members}
use Rattle.toml.specs.Parse.{parse_document}
use Rattle.guide_tree.specs.declared.fault.GuideFault.{GuideFault}
use Rattle.guide_tree.specs.declared.rows.GuideRows.{GuideRows}
use Rattle.guide_tree.specs.Words.{guide_of, nodes_view, numbered}
use Rattle.guide_toml.specs.Answers.{Answers}
use Rattle.guide_toml.specs.Guides.{guide_of_table}
use Rattle.guide_toml.specs.declared.fault.GuideFileFault.{GuideFileFault}
use Rattle.guide_toml.specs.declared.fault.GuideFileFault.TheVariants as fault
use Rattle.setup_errors.specs.GuideWords.{IsGuideSaid}
use Rattle.toml_keys.specs.Answers.{Gives}
use Rattle.toml_keys.specs.Refusals.{Refusal}
use Rattle.toml_keys.specs.declared.file_fault.FileFault.{FileFault}
use Rattle.toml_keys.specs.declared.file_fault.FileFault.TheVariants as file
use Rattle.guide_toml.specs.FileBytes.{table_of}
use Rattle.guide_toml.proofs.ForAbove.{SaysNone, SaysOf, fault_is, guide_fault_is, has_table, one_or_none}
use Rattle.check_command.specs.SetupFiles.{IsFileRefused, IsGuideRefused, Words}
use Rattle.check_command.specs.SetupFiles.{IsFileSaid, IsOwnSaid, IsSaidOf}

-- the words of that fault
pub guide_refused : (from : Option (List ℕ)) (bytes : List ℕ) (f : GuideFileFault) (text : List ℕ) → Some bytes ≡ from
    → SaysOf bytes (λ t. Answers (Err f) (guide_of_table t))
    → SaysNone GuideRows GuideFileFault bytes fault.NotToml fault.NoMemory (Err f) → f ≢ fault.NoMemory → IsSaidOf bytes f text
    → IsGuideRefused from text
guide_refused from bytes f text is table toml memory said =
    subst (λ (b : Option (List ℕ)). IsGuideRefused b text) is (f, guide_fault_is bytes f table toml memory, said)

pub rows_refused : {A : Type 0} (read : Members → Result A Refusal) (words : Words) (from : Option (List ℕ)) (bytes : List ℕ)
    (f : FileFault) (text : List ℕ) → Some bytes ≡ from → SaysOf bytes (λ t. Gives (Err f) (read t))
    → SaysNone A FileFault bytes file.NotToml file.NoMemory (Err f) → f ≢ file.NoMemory → IsFileSaid words bytes f text
    → IsFileRefused read words from text
rows_refused read words from bytes f text is table toml memory said =
    subst (λ (b : Option (List ℕ)). IsFileRefused read words b text) is (f, fault_is read bytes f table toml memory, said)

-- the table that was read
pub table_is : (bytes read : List ℕ) (t : Members) → read ≡ bytes → IsUtf8 bytes → parse_document read ≡ Some t
    → table_of bytes ≡ Some t
table_is bytes read t same utf8 parsed =
    rw (is_utf8-from_IsUtf8 bytes utf8) (subst (λ (x : List ℕ). parse_document x ≡ Some t) same parsed)

-- what is said of the guide that the bytes write
pub own_said : (bytes : List ℕ) (f : GuideFault) (rows : GuideRows) (text : List ℕ)
    → SaysOf bytes (λ t. guide_of_table t ≡ Ok (guide_of rows))
    → SaysNone GuideRows GuideFileFault bytes fault.NotToml fault.NoMemory (Ok rows)
    → IsGuideSaid (numbered 1 (nodes_view rows.nodes.items)) f text → IsOwnSaid bytes f text
own_said bytes f rows text table toml said = (
  guide_of rows,
  has_table bytes (λ t. guide_of_table t ≡ Ok (guide_of rows)) fault.NotToml fault.NoMemory (Ok rows) (one_or_none bytes) (λ e. cc)
      (λ e. cc) table toml,
  said,
)
