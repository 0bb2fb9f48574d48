-- Private. When nothing can be in the way of a delivery.
use Rattle.std.specs.Prelude.{ℕ, ◌≡◌, ◌==◌, ◌&&◌, Bool, false, not, Option}
use Rattle.x12_bytes.specs.declared.delims.Delims.{Delims}
use Rattle.x12_write.specs.Delimiters.{is_delimiter, is_this}
use Rattle.mailbox.specs.Deliveries.{collides}

-- each delimiter of the receiver is one where the set comes from
abbrev pub AllShared : (from to : Delims) → Type 0
AllShared from to = (b : ℕ) → collides from to b ≡ false

-- this byte, where it isn't a delimiter where the set comes from
abbrev pub is_foreign : (from : Delims) → ℕ → ℕ → Bool
is_foreign from byte b = not (is_delimiter from b) && b == byte

-- the same, where there is such a byte
abbrev pub is_foreign_if : (from : Delims) → Option ℕ → ℕ → Bool
is_foreign_if from one b = not (is_delimiter from b) && is_this one b
