-- X12.6, segment terminator: what is known of the part that is looked at while a text is read.
use Rattle.std.specs.Prelude.{◌≡◌, ℕ, ◌-◌, ◌<◌, ◌≤◌, ◌==◌, ◌⊎◌, true, false, List, ◌++◌, length, drop, slice_index}
use Rattle.x12_bytes.specs.Bytes.{is_line_end}
use Rattle.x12_bytes.specs.declared.delims.Delims.{Delims}
use Rattle.whole_interchanges.specs.Batches.{end_from}
use Rattle.whole_interchanges.specs.Begun.{may_begin}

-- where it begins; up to where CR and LF alone are in it; up to where no terminator is in it
pub record IsOpen (read : List ℕ) (t at lead seen : ℕ) : Type 0 where
  pub order : at ≤ lead
  pub later : lead ≤ seen
  pub within : seen ≤ length read
  pub line_ends : (k : ℕ) → k < lead - at → is_line_end (slice_index (drop at read) k) ≡ true
  pub none : (k : ℕ) → k < seen - at → (slice_index (drop at read) k == t) ≡ false

-- an interchange's end is asked from one offset on as from another, whatever follows
abbrev pub GoesOn : List ℕ → Delims → ℕ → ℕ → Type 0
GoesOn read d a b = (more : List ℕ) → end_from (read ++ more) d a ≡ end_from (read ++ more) d b

-- what is read ends there, or a header may still turn out to begin there
abbrev pub IsAsFar : List ℕ → ℕ → Type 0
IsAsFar read at = (at ≡ length read) ⊎ (may_begin read at ≡ true)

-- a segment begins there, of which no terminator is read
abbrev pub IsUnended : List ℕ → (lead seen : ℕ) → Type 0
IsUnended read lead seen = (is_line_end (slice_index read lead) ≡ false) × (seen ≡ length read)

-- why the end isn't known by the part that is looked at: CR and LF alone are read of it, or a header may begin in it, or it has no
-- terminator yet
abbrev pub IsShort : List ℕ → (lead seen : ℕ) → Type 0
IsShort read lead seen = IsAsFar read lead ⊎ IsUnended read lead seen
