-- Private. What a reader of the system answers for what the system answered, and what it counts.
use Rattle.std.specs.Prelude.{◌≡◌, ◌≢◌, ℕ, ◌+◌, ◌<◌, ◌≤◌, Bool, true, Result, Ok, Err, max}
use Rattle.std.specs.IoError.{error_kind}
use Rattle.std.specs.declared.io.Error.{Error}
use Rattle.std.specs.declared.io.ErrorKind.{ErrorKind}
use Rattle.std.specs.declared.io.ErrorKind.TheVariants as kind
use Rattle.stream_read.specs.declared.source.SourceFault.{SourceFault}
use Rattle.stream_read.specs.declared.source.SourceFault.TheVariants.{Failed, Interrupted}

-- an error of this kind after that many interruptions in a row: an interruption is one, as long as they can be counted, and all else is
-- a failure
pub record IsFaultOf (of : ErrorKind) (row : ℕ) (fault : SourceFault) : Type 0 where
  pub interrupted : of ≡ kind.Interrupted → row < 4294967295 → fault ≡ Interrupted
  pub uncounted : 4294967295 ≤ row → fault ≡ Failed
  pub failed : of ≢ kind.Interrupted → fault ≡ Failed

-- bytes, or the end, as they are, and a fault by its kind
abbrev pub IsAnswerOf : Result ℕ Error → (row : ℕ) → Result ℕ SourceFault → Type 0
IsAnswerOf (Ok n) row (Ok m) = m ≡ n
IsAnswerOf (Ok n) row (Err fault) = ⊥
IsAnswerOf (Err error) row (Ok m) = ⊥
IsAnswerOf (Err error) row (Err fault) = IsFaultOf (error_kind error) row fault

-- what is counted: whether it has failed, how often it was interrupted in a row, and how often at most
pub record AreCounts (failed : Bool) (row longest : ℕ) (now_failed : Bool) (now_row now_longest : ℕ) : Type 0 where
  pub failed_is : now_failed ≡ failed
  pub row_is : now_row ≡ row
  pub longest_is : now_longest ≡ longest

abbrev pub IsCounted : Result ℕ SourceFault → (failed : Bool) → (row longest : ℕ) → (now_failed : Bool) → (now_row now_longest : ℕ)
    → Type 0
IsCounted (Ok n) failed row longest now_failed now_row now_longest = AreCounts failed 0 longest now_failed now_row now_longest
IsCounted (Err Interrupted) failed row longest now_failed now_row now_longest =
    AreCounts failed (row + 1) (max longest (row + 1)) now_failed now_row now_longest
IsCounted (Err Failed) failed row longest now_failed now_row now_longest = AreCounts true 0 longest now_failed now_row now_longest
