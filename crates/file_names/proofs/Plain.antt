-- A name of printable bytes of ASCII is shown as it is.
use Rattle.std.proofs.Common.{◌≡◌, ◌∙◌, ℕ, ◌<◌, ◌≤◌, ◌&&◌, Bool, true, false, List, [], ◌∷◌, ◌++◌, cond, refl, sym, ap, arith, get_or}
use Rattle.std.specs.Prelude.{nat_le, nat_lt}
use Rattle.std.specs.List.{All}
use Rattle.std.proofs.lemmas.List.Elements.{All-head, All-tail}
use Rattle.std.proofs.lemmas.Grind.{common_steps}
use Rattle.std.proofs.lemmas.Bool.Decides.{nat_tests}
use Rattle.file_names.specs.Shown.{shown, shown_after, shown_byte}

abbrev IsPlain : ℕ → Type 0
IsPlain b = (nat_le 32 b && nat_lt b 127) ≡ true

byte : (before b next : ℕ) → IsPlain b → shown_byte before b next ≡ b ∷ []
byte before b next plain = grind (arith, nat_tests)

after : (before : ℕ) (bs : List ℕ) → All IsPlain bs → shown_after before bs ≡ bs
after before [] all = refl
after before (b ∷ bs) all =
    ap (λ (l : List ℕ). l ++ shown_after b bs) (byte before b (get_or bs 0 0) (All-head IsPlain b bs all))
    ∙ ap (λ (l : List ℕ). b ∷ l) (after b bs (All-tail IsPlain b bs all))

pub plain : (bs : List ℕ) → All (λ b. (nat_le 32 b && nat_lt b 127) ≡ true) bs → shown bs ≡ bs
plain bs all = after 0 bs all
