-- Texts that are appended one after another.
use Rattle.std.proofs.Common.{◌≡◌, ◌++◌, ◌∙◌, [], List, ℕ, ap, append_assoc}

pub three : (none x y z a b c : List ℕ) → none ≡ [] → x ≡ none ++ a → y ≡ x ++ b → z ≡ y ++ c → z ≡ a ++ (b ++ c)
three none x y z a b c none_is x_is y_is z_is =
    z_is ∙ ap (λ (l : List ℕ). l ++ c) (y_is ∙ ap (λ (l : List ℕ). l ++ b) (x_is ∙ ap (λ (l : List ℕ). l ++ a) none_is))
    ∙ append_assoc a b c
