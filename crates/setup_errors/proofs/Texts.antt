-- Texts that are added one after another stand in this order.
use Rattle.std.proofs.Common.{◌≡◌, ◌∙◌, ◌++◌, ℕ, List, ap, append_assoc}

pub two_texts : (o a b p q : List ℕ) → p ≡ o ++ a → q ≡ p ++ b → q ≡ o ++ (a ++ b)
two_texts o a b p q e f = f ∙ ap (λ (x : List ℕ). x ++ b) e ∙ append_assoc o a b
