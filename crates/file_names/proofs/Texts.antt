-- An argument as a text: UTF-8 as it is, what isn't UTF-8 marked.
use Rattle.std.proofs.Common.{◌≡◌, Bool, true, false, ℕ, List, cond, ap, refl}
use Rattle.std.proofs.lemmas.Str.{IsUtf8-from_is_utf8, is_utf8-from_IsUtf8}
use Rattle.std.specs.Str.{IsUtf8, is_utf8}
use Rattle.file_names.specs.Given.{marked, text_of}

pub as_it_is : (bytes : List ℕ) → IsUtf8 bytes → text_of bytes ≡ bytes
as_it_is bytes is = ap (λ (b : Bool). cond b bytes (marked bytes)) (is_utf8-from_IsUtf8 bytes is)

by_test : (b : Bool) (bytes : List ℕ) → (b ≡ true → IsUtf8 bytes) → (IsUtf8 bytes → ⊥) → cond b bytes (marked bytes) ≡ marked bytes
by_test true bytes is none = absurd (none (is refl))
by_test false bytes is none = refl

pub is_marked_so : (bytes : List ℕ) → (IsUtf8 bytes → ⊥) → text_of bytes ≡ marked bytes
is_marked_so bytes none = by_test (is_utf8 bytes) bytes (IsUtf8-from_is_utf8 bytes) none
