-- What is said of bytes that aren't UTF-8, and of bytes that are.
use Rattle.std.proofs.Common.{◌≡◌, ◌∙◌, ◌≤◌, inl, inr, ℕ, Bool, true, false, List, ap, length, refl, subst}
use Rattle.std.specs.Str.{IsUtf8, is_utf8}
use Rattle.std.specs.Str.Lossy.{utf8_valid_len}
use Rattle.std.proofs.lemmas.Str.{IsUtf8-from_is_utf8, is_utf8-from_IsUtf8}
use Rattle.key_errors.specs.NoTables.{IsNoTableSaid}
use Rattle.key_errors.specs.TextPlaces.{said_at}
use Rattle.key_errors.specs.declared.words.TheConstants as say

is_none : (bytes : List ℕ) (b : Bool) → is_utf8 bytes ≡ b → (IsUtf8 bytes → ⊥) → is_utf8 bytes ≡ false
is_none bytes true is none = absurd (none (IsUtf8-from_is_utf8 bytes is))
is_none bytes false is none = is

pub no_utf8 : (bytes text : List ℕ) (offset : ℕ) → (IsUtf8 bytes → ⊥) → offset ≡ utf8_valid_len bytes
    → text ≡ said_at bytes offset say.NO_UTF_8.now → IsNoTableSaid bytes text
no_utf8 bytes text offset none at is =
    inl (is_none bytes (is_utf8 bytes) refl none, is ∙ ap (λ (n : ℕ). said_at bytes n say.NO_UTF_8.now) at)

pub no_toml : (bytes read text : List ℕ) (offset : ℕ) (cause : List ℕ) → read ≡ bytes → IsUtf8 bytes → offset ≤ length read
    → text ≡ said_at bytes offset cause → IsNoTableSaid bytes text
no_toml bytes read text offset cause same utf8 within is =
    inr (is_utf8-from_IsUtf8 bytes utf8, (offset, subst (λ (t : List ℕ). offset ≤ length t) same within, cause, is))
