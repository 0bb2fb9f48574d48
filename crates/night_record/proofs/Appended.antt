-- What is written after one another.
use Rattle.std.proofs.Common.{◌≡◌, ◌∙◌, ℕ, List, [], ◌++◌, append-nil, append_assoc, ap, sym}

pub four : (old one two three new a b c d : List ℕ) → one ≡ old ++ a → two ≡ one ++ b → three ≡ two ++ c → new ≡ three ++ d
    → new ≡ old ++ (a ++ (b ++ (c ++ (d ++ []))))
four old one two three new a b c d first second third last =
    last ∙ ap (λ (t : List ℕ). t ++ d) (third ∙ ap (λ (t : List ℕ). t ++ c) (second ∙ ap (λ (t : List ℕ). t ++ b) first))
    ∙ ap (λ (t : List ℕ). t ++ d) (append_assoc (old ++ a) b c) ∙ append_assoc (old ++ a) (b ++ c) d
    ∙ append_assoc old a ((b ++ c) ++ d) ∙ ap (λ (t : List ℕ). old ++ (a ++ t)) (append_assoc b c d)
    ∙ ap (λ (t : List ℕ). old ++ (a ++ (b ++ (c ++ t)))) (sym (append-nil d))
