-- Texts that are appended one after another.
use Rattle.std.proofs.Common.{◌≡◌, ◌++◌, ◌∙◌, List, ℕ, ap, append_assoc}

step : (x y t r : List ℕ) → x ≡ y ++ t → x ++ r ≡ y ++ (t ++ r)
step x y t r is = ap (λ (l : List ℕ). l ++ r) is ∙ append_assoc y t r

pub four : (old w x y z a b c d : List ℕ) → w ≡ old ++ a → x ≡ w ++ b → y ≡ x ++ c → z ≡ y ++ d → z ≡ old ++ (a ++ (b ++ (c ++ d)))
four old w x y z a b c d w_is x_is y_is z_is =
    z_is ∙ step y x c d y_is ∙ step x w b (c ++ d) x_is ∙ step w old a (b ++ (c ++ d)) w_is

pub five : (old v w x y z a b c d e : List ℕ) → v ≡ old ++ a → w ≡ v ++ b → x ≡ w ++ c → y ≡ x ++ d → z ≡ y ++ e
    → z ≡ old ++ (a ++ (b ++ (c ++ (d ++ e))))
five old v w x y z a b c d e v_is w_is x_is y_is z_is =
    z_is ∙ step y x d e y_is ∙ step x w c (d ++ e) x_is ∙ step w v b (c ++ (d ++ e)) w_is ∙ step v old a (b ++ (c ++ (d ++ e))) v_is
