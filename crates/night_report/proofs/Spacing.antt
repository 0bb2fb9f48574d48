-- Words after spaces, written in turn.
use Rattle.std.proofs.Common.{ℕ, ◌≡◌, List, ◌∷◌, [], ◌++◌, ap, sym, ◌∙◌, append_assoc}
use Rattle.std.proofs.lemmas.Grind.{flat_map-append}
use Rattle.night_report.specs.Lines.{line, spaced}

pub words_behind : (old a b : List ℕ) (words more : List (List ℕ)) → a ≡ old ++ spaced words → b ≡ a ++ spaced more
    → b ≡ old ++ spaced (words ++ more)
words_behind old a b words more first next =
    next ∙ ap (λ (l : List ℕ). l ++ spaced more) first ∙ append_assoc old (spaced words) (spaced more)
    ∙ ap (λ (l : List ℕ). old ++ l) (sym (flat_map-append (λ word. 32 ∷ word) words more))

pub line_behind : (old first a b c : List ℕ) (words : List (List ℕ)) → a ≡ old ++ first → b ≡ a ++ spaced words → c ≡ b ++ 10 ∷ []
    → c ≡ old ++ line first words
line_behind old first a b c words begun spoken ended =
    ended ∙ ap (λ (l : List ℕ). l ++ 10 ∷ []) spoken ∙ ap (λ (l : List ℕ). (l ++ spaced words) ++ 10 ∷ []) begun
    ∙ ap (λ (l : List ℕ). l ++ 10 ∷ []) (append_assoc old first (spaced words)) ∙ append_assoc old (first ++ spaced words) (10 ∷ [])
