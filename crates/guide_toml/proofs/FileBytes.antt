-- What reading a file's bytes says of them: a table is there or not, and what is answered is what the table says.
use Rattle.std.proofs.Common.{◌≡◌, ◌≢◌, ◌⊎◌, ◌↔◌, inl, inr, ℕ, Bool, true, false, List, Option, None, Some, Result, Ok, Err}
use Rattle.std.proofs.Common.{refl, subst}
use Rattle.std.specs.Str.{IsUtf8, is_utf8}
use Rattle.std.proofs.lemmas.Str.{IsUtf8-from_is_utf8, is_utf8-from_IsUtf8}
use Rattle.toml.specs.Data.{Members}
use Rattle.toml.specs.Parse.{parse_document}
use Rattle.toml_keys.specs.Answers.{Gives}
use Rattle.toml_keys.specs.Refusals.{Refusal}
use Rattle.toml_keys.specs.declared.file_fault.FileFault.{FileFault}
use Rattle.toml_keys.specs.declared.file_fault.FileFault.TheVariants as file
use Rattle.guide_tree.specs.declared.rows.GuideRows.{GuideRows}
use Rattle.guide_toml.specs.Answers.{Answers}
use Rattle.guide_toml.specs.FileBytes.{HasTable, IsFaultOf, IsFileOf, IsGuideFaultOf, IsGuideOf, table_of}
use Rattle.guide_toml.specs.Guides.{guide_of_table}
use Rattle.guide_toml.specs.declared.fault.GuideFileFault.{GuideFileFault}
use Rattle.guide_toml.specs.declared.fault.GuideFileFault.TheVariants as fault

-- bytes that write a table
pub record HasOne (bytes : List ℕ) : Type 0 where
  pub table : Members
  pub utf8 : IsUtf8 bytes
  pub parsed : parse_document bytes ≡ Some table
  pub is : table_of bytes ≡ Some table

-- bytes that write none
pub record HasNone (bytes : List ℕ) : Type 0 where
  pub none : IsUtf8 bytes → parse_document bytes ≡ None
  pub is : table_of bytes ≡ None

parsed_or_not : (bytes : List ℕ) (read : Option Members) → is_utf8 bytes ≡ true → parse_document bytes ≡ read → HasOne bytes ⊎ HasNone bytes
parsed_or_not bytes None text is = inr (record { none = λ _. is; is = rw (text, is) refl })
parsed_or_not bytes (Some t) text is =
    inl (record { table = t; utf8 = IsUtf8-from_is_utf8 bytes text; parsed = is; is = rw (text, is) refl })

no_text : (bytes : List ℕ) → is_utf8 bytes ≡ false → IsUtf8 bytes → ⊥
no_text bytes is utf8 = let e = is_utf8-from_IsUtf8 bytes utf8 in cc

text_or_not : (bytes : List ℕ) (b : Bool) → is_utf8 bytes ≡ b → HasOne bytes ⊎ HasNone bytes
text_or_not bytes true is = parsed_or_not bytes (parse_document bytes) is refl
text_or_not bytes false is = inr (record { none = λ utf8. absurd (no_text bytes is utf8); is = rw is refl })

pub one_or_none : (bytes : List ℕ) → HasOne bytes ⊎ HasNone bytes
one_or_none bytes = text_or_not bytes (is_utf8 bytes) refl

-- what a reader of files promises of no table
abbrev pub SaysNone : (A E : Type 0) → (bytes : List ℕ) → (no_toml no_memory : E) → Result A E → Type 0
SaysNone A E bytes no_toml no_memory r = (r ≡ Err no_toml) ↔ ((r ≢ Err no_memory) × (IsUtf8 bytes → parse_document bytes ≡ None))

-- and of a table
abbrev pub SaysOf : (bytes : List ℕ) → (Members → Type 0) → Type 0
SaysOf bytes P = (t : Members) → IsUtf8 bytes → parse_document bytes ≡ Some t → P t

says : (bytes : List ℕ) (P : Members → Type 0) → HasOne bytes → SaysOf bytes P → HasTable bytes P
says bytes P one table = (one.table, one.is, table one.table one.utf8 one.parsed)

-- an answer other than these two is that of a table
pub has_table : {A E : Type 0} (bytes : List ℕ) (P : Members → Type 0) (no_toml no_memory : E) (r : Result A E)
    → HasOne bytes ⊎ HasNone bytes → (r ≡ Err no_toml → ⊥) → r ≢ Err no_memory → SaysOf bytes P
    → SaysNone A E bytes no_toml no_memory r → HasTable bytes P
has_table bytes P no_toml no_memory r (inl one) other memory table toml = says bytes P one table
has_table bytes P no_toml no_memory r (inr none) other memory table toml = absurd (other (toml.1 (memory, none.none)))

no_table : (bytes : List ℕ) (P : Members → Type 0) → HasOne bytes ⊎ HasNone bytes → ((t : Members) → P t → ⊥) → SaysOf bytes P
    → table_of bytes ≡ None
no_table bytes P (inl one) never table = absurd (never one.table (table one.table one.utf8 one.parsed))
no_table bytes P (inr none) never table = none.is

-- the guide that was read
pub guide_is : (from : Option (List ℕ)) (bytes : List ℕ) (g : GuideRows) → Some bytes ≡ from
    → SaysOf bytes (λ t. Answers (Ok g) (guide_of_table t)) → SaysNone GuideRows GuideFileFault bytes fault.NotToml fault.NoMemory (Ok g)
    → IsGuideOf from g
guide_is from bytes g is table toml =
    subst (λ (b : Option (List ℕ)). IsGuideOf b g) is
    (has_table bytes (λ t. Answers (Ok g) (guide_of_table t)) fault.NotToml fault.NoMemory (Ok g) (one_or_none bytes) (λ e. cc) (λ e. cc)
    table toml)

-- the fault by which it wasn't
pub guide_fault_is : (bytes : List ℕ) (f : GuideFileFault) → SaysOf bytes (λ t. Answers (Err f) (guide_of_table t))
    → SaysNone GuideRows GuideFileFault bytes fault.NotToml fault.NoMemory (Err f) → f ≢ fault.NoMemory → IsGuideFaultOf bytes f
guide_fault_is bytes fault.NotToml table toml memory = no_table bytes _ (one_or_none bytes) (λ t never. never) table
guide_fault_is bytes fault.NoMemory table toml memory = memory refl
guide_fault_is bytes (fault.Missing k slot) table toml memory =
    has_table bytes _ fault.NotToml fault.NoMemory (Err (fault.Missing k slot)) (one_or_none bytes) (λ e. cc) (λ e. cc) table toml
guide_fault_is bytes (fault.WrongKind k slot) table toml memory =
    has_table bytes _ fault.NotToml fault.NoMemory (Err (fault.WrongKind k slot)) (one_or_none bytes) (λ e. cc) (λ e. cc) table toml
guide_fault_is bytes (fault.Unknown k slot) table toml memory =
    has_table bytes _ fault.NotToml fault.NoMemory (Err (fault.Unknown k slot)) (one_or_none bytes) (λ e. cc) (λ e. cc) table toml
guide_fault_is bytes (fault.Guide f) table toml memory =
    has_table bytes _ fault.NotToml fault.NoMemory (Err (fault.Guide f)) (one_or_none bytes) (λ e. cc) (λ e. cc) table toml

-- the rows that were read
pub rows_are : {A : Type 0} (read : Members → Result A Refusal) (from : Option (List ℕ)) (bytes : List ℕ) (rows : A) → Some bytes ≡ from
    → SaysOf bytes (λ t. Gives (Ok rows) (read t)) → SaysNone A FileFault bytes file.NotToml file.NoMemory (Ok rows)
    → IsFileOf read from rows
rows_are read from bytes rows is table toml =
    subst (λ (b : Option (List ℕ)). IsFileOf read b rows) is
    (has_table bytes (λ t. read t ≡ Ok rows) file.NotToml file.NoMemory (Ok rows) (one_or_none bytes) (λ e. cc) (λ e. cc) table toml)

-- the fault by which none were
pub fault_is : {A : Type 0} (read : Members → Result A Refusal) (bytes : List ℕ) (f : FileFault)
    → SaysOf bytes (λ t. Gives (Err f) (read t)) → SaysNone A FileFault bytes file.NotToml file.NoMemory (Err f) → f ≢ file.NoMemory
    → IsFaultOf read bytes f
fault_is read bytes file.NotToml table toml memory = no_table bytes _ (one_or_none bytes) (λ t never. never) table
fault_is read bytes file.NoMemory table toml memory = memory refl
fault_is read bytes (file.Missing k) table toml memory =
    has_table bytes _ file.NotToml file.NoMemory (Err (file.Missing k)) (one_or_none bytes) (λ e. cc) (λ e. cc) table toml
fault_is read bytes (file.WrongKind k) table toml memory =
    has_table bytes _ file.NotToml file.NoMemory (Err (file.WrongKind k)) (one_or_none bytes) (λ e. cc) (λ e. cc) table toml
fault_is read bytes (file.Unknown k) table toml memory =
    has_table bytes _ file.NotToml file.NoMemory (Err (file.Unknown k)) (one_or_none bytes) (λ e. cc) (λ e. cc) table toml
