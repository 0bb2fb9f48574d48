-- X12.6, delimiters and data elements: texts that hold no element separator and no terminator, and delimiters that leave letters and
-- digits alone.
use Rattle.std.specs.Prelude.{ℕ, ◌≡◌, ◌≢◌, List, false, All}
use Rattle.std.specs.Char.{is_ascii_alphanumeric}
use Rattle.x12_bytes.specs.declared.delims.Delims.{Delims}

-- delimiters that no letter, no digit and not each other can be taken for
pub record CanDivide (d : Delims) : Type 0 where
  pub element : is_ascii_alphanumeric d.element ≡ false
  pub terminator : is_ascii_alphanumeric d.terminator ≡ false
  pub apart : d.element ≢ d.terminator

-- no element separator and no terminator is in a text
abbrev pub IsUndivided : Delims → List ℕ → Type 0
IsUndivided d text = All (λ b. (b ≢ d.element) × (b ≢ d.terminator)) text
