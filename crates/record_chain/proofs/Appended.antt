-- Texts that are appended one after another.
use Rattle.std.proofs.Common.{◌≡◌, ◌∙◌, ◌++◌, ℕ, List, ap, append_assoc}

pub three : (old x y z a b c : List ℕ) → x ≡ old ++ a → y ≡ x ++ b → z ≡ y ++ c → z ≡ old ++ (a ++ (b ++ c))
three old x y z a b c one then last =
    last ∙ ap (λ l. l ++ c) (then ∙ ap (λ l. l ++ b) one) ∙ append_assoc (old ++ a) b c ∙ append_assoc old a (b ++ c)
