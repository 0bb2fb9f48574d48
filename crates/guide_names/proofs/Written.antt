-- The table that bytes write, if they are UTF-8, and if they aren't.
use Rattle.std.proofs.Common.{◌≡◌, ℕ, List, Option, None, Bool, true, false, cond, refl, ap}
use Rattle.std.specs.Str.{IsUtf8, is_utf8}
use Rattle.std.proofs.lemmas.Str.{IsUtf8-from_is_utf8, is_utf8-from_IsUtf8}
use Rattle.toml.specs.Data.{Members}
use Rattle.toml.specs.Parse.{parse_document}
use Rattle.guide_names.specs.Refusals.{written_table}

nothing : (b : Bool) (read : Option Members) → (b ≡ true → ⊥) → cond b read None ≡ None
nothing true read odd = absurd (odd refl)
nothing false read odd = refl

pub none_written : (bytes : List ℕ) → (IsUtf8 bytes → ⊥) → written_table bytes ≡ None
none_written bytes odd = nothing (is_utf8 bytes) (parse_document bytes) (λ is. odd (IsUtf8-from_is_utf8 bytes is))

pub written : (bytes : List ℕ) → IsUtf8 bytes → written_table bytes ≡ parse_document bytes
written bytes utf8 = ap (λ (b : Bool). cond b (parse_document bytes) None) (is_utf8-from_IsUtf8 bytes utf8)
