-- Texts that grow by one part after another.
use Rattle.std.proofs.Common.{◌≡◌, ◌∙◌, ℕ, List, ◌++◌, ap, append_assoc}

pub two : (old x y a b : List ℕ) → x ≡ old ++ a → y ≡ x ++ b → y ≡ old ++ (a ++ b)
two old x y a b one last = last ∙ ap (λ (l : List ℕ). l ++ b) one ∙ append_assoc old a b
