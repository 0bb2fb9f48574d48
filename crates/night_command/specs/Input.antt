-- What is said of the input when it is opened, and the source that it is (own).
use Rattle.std.specs.Prelude.{◌≡◌, ◌<◌, ◌≤◌, ℕ, List, Option, IsOk, IsErrOf, Result, Ok, Err}
use Rattle.std.specs.Fs.{metadata_len}
use Rattle.std.specs.IoError.{error_kind}
use Rattle.std.specs.declared.fs.Metadata.{Metadata}
use Rattle.std.specs.declared.io.Error.{Error}
use Rattle.hub_kinds.specs.declared.limits.TheConstants.{LONGEST_TEXT}
use Rattle.night_command.specs.Failure.{IsMemoryOr}
use Rattle.night_command.specs.declared.failure.Failure.{Failure}
use Rattle.night_command.specs.declared.failure.Failure.TheVariants as failure

-- too long exactly where the system says that the file has more bytes than the limit; an error is that of the input, or out of memory
abbrev pub IsInputOf : {F S : Type 0} → Result (F × Metadata) Error → Result S Failure → Type 0
IsInputOf (Ok opened) result =
    (metadata_len opened.1 ≤ LONGEST_TEXT → IsOk result) × (LONGEST_TEXT < metadata_len opened.1 → IsErrOf result failure.InputTooLong)
IsInputOf (Err error) (Ok source) = ⊥
IsInputOf (Err error) (Err failed) = IsMemoryOr (error_kind error) failure.Input failed

-- a source of all that a file declares which was opened, of which nothing was read
pub record IsUnreadOf {F E : Type 0} (declared : F → Option (List ℕ)) (answer : Result F E) (remaining : Option (List ℕ))
    (faults given : ℕ) : Type 0 where
  pub file : F
  pub opened : answer ≡ Ok file
  pub whole : remaining ≡ declared file
  pub none_failed : faults ≡ 0
  pub none_given : given ≡ 0
