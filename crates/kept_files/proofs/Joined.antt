-- Lists that are put after one another.
use Rattle.std.proofs.Common.{◌≡◌, ◌∙◌, List, [], ◌∷◌, ◌++◌, ap, append_assoc}

pub joined : {X : Type 0} (a b c d e : List X) (last : X) (two three four five all : List X) → two ≡ a ++ b → three ≡ two ++ c
    → four ≡ three ++ d → five ≡ four ++ e → all ≡ five ++ last ∷ []
    → all ≡ a ++ (b ++ (c ++ (d ++ (e ++ last ∷ []))))
joined a b c d e last two three four five all is_two is_three is_four is_five is_all =
    is_all ∙ ap (λ t. t ++ last ∷ []) (is_five ∙ ap (λ t. t ++ e) (is_four ∙ ap (λ t. t ++ d) (is_three ∙ ap (λ t. t ++ c) is_two)))
    ∙ append_assoc (((a ++ b) ++ c) ++ d) e (last ∷ []) ∙ append_assoc ((a ++ b) ++ c) d (e ++ last ∷ [])
    ∙ append_assoc (a ++ b) c (d ++ (e ++ last ∷ [])) ∙ append_assoc a b (c ++ (d ++ (e ++ last ∷ [])))
