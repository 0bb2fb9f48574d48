-- Why a file isn't read.
use Rattle.std.proofs.Common.{◌≡◌, ◌≢◌, List, ℕ, Option, Result, Ok, Err, true, false, refl, subst, sym}
use Rattle.std.specs.Result.{IfErr, IsErrAnd}
use Rattle.toml.specs.Data.{Members}
use Rattle.csv.specs.Reading.{ExplainsRead}
use Rattle.csv.specs.declared.error.ErrorKind.{ErrorKind}
use Rattle.csv.specs.declared.error.ErrorKind.TheVariants as kind
use Rattle.csv.specs.declared.reader.Reader.{Reader}
use Rattle.toml_keys.specs.Answers.{Gives}
use Rattle.toml_keys.specs.Refusals.{Refusal}
use Rattle.toml_keys.specs.declared.file_fault.FileFault.{FileFault}
use Rattle.toml_keys.specs.declared.file_fault.FileFault.TheVariants as file
use Rattle.guide_toml.specs.FileBytes.{IsFaultOf}
use Rattle.guide_toml.proofs.ForAbove.{SaysNone, SaysOf, fault_is}
use Rattle.night_entries.specs.ReadFault.{IsReadFault, read_fault, table_fault}
use Rattle.night_entries.specs.declared.fault.EntryFault.TheVariants as fault
use Rattle.night_entries.specs.declared.fault.Paper.{Paper}

refused_file : {A : Type 0} (read : Members → Result A Refusal) (paper : Paper) (bytes : List ℕ) (f : FileFault)
    → (f ≢ file.NoMemory → IsFaultOf read bytes f) → IsReadFault read paper bytes (read_fault paper f)
refused_file read paper bytes file.NoMemory is = tt
refused_file read paper bytes file.NotToml is = (refl, (file.NotToml, is (λ e. cc)))
refused_file read paper bytes (file.Missing key) is = (refl, (file.Missing key, is (λ e. cc)))
refused_file read paper bytes (file.WrongKind key) is = (refl, (file.WrongKind key, is (λ e. cc)))
refused_file read paper bytes (file.Unknown key) is = (refl, (file.Unknown key, is (λ e. cc)))

pub file_fails : {A : Type 0} (read : Members → Result A Refusal) (paper : Paper) (bytes : List ℕ) (f : FileFault)
    → SaysOf bytes (λ t. Gives (Err f) (read t)) → SaysNone A FileFault bytes file.NotToml file.NoMemory (Err f)
    → IsReadFault read paper bytes (read_fault paper f)
file_fails read paper bytes f table toml = refused_file read paper bytes f (λ memory. fault_is read bytes f table toml memory)

-- a reader that takes rows of any length fails for its source and for memory alone
pub fails_for_memory : {R : Type 0} (rem : R → Option (List ℕ)) (a b : Reader R) (k : ErrorKind) → a.flexible ≡ true
    → ExplainsRead rem a b false k → table_fault k ≡ fault.Memory
fails_for_memory rem a b (kind.Io e) flexible why = refl
fails_for_memory rem a b kind.OutOfMemory flexible why = refl
fails_for_memory rem a b (kind.UnequalLengths at expected len) flexible why = let strict = why.0 in cc
fails_for_memory rem a b (kind.Utf8 at e) flexible why = let text = why.0 in cc
fails_for_memory rem a b (kind.Serialize text) flexible why = absurd why
fails_for_memory rem a b (kind.Deserialize at e) flexible why = absurd why

-- an error that is passed on
pub same_fault : {A E : Type 0} (r : Result A E) (e : E) (P : E → Type 0) → IsErrAnd r (λ f. f ≡ e) → P e → IfErr r P
same_fault (Ok x) e P same holds = tt
same_fault (Err f) e P same holds = subst P (sym same) holds
