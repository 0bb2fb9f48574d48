-- Steps and places are equal or they aren't.
use Rattle.std.proofs.Common.{◌≡◌, ◌≢◌, ℕ, ◌⊎◌, inl, inr, [], ◌∷◌}
use Rattle.std.proofs.Common.{refl, ap}
use Rattle.std.proofs.lemmas.Bool.{cases_eq}
use Rattle.guide_tree.specs.Words.{Pair, Place, use_of}
use Rattle.guide_law.proofs.Cases.{pick}
use Rattle.guide_tree.proofs.ForAbove.{pair_is}

pair_same : (a b : Pair) → (a ≡ b) ⊎ (a ≢ b)
pair_same a b =
    pick (cases_eq a.child b.child)
    (λ e. pick (cases_eq a.use_no b.use_no) (λ f. inl (pair_is a b e f))
    (λ n. inr (λ g. n (ap (λ (p : Pair). p.use_no) g))))
    (λ n. inr (λ g. n (ap (λ (p : Pair). p.child) g)))

pub place_same : (v w : Place) → (v ≡ w) ⊎ (v ≢ w)
place_same [] [] = inl refl
place_same [] (b ∷ w) = inr (λ e. cc)
place_same (a ∷ v) [] = inr (λ e. cc)
place_same (a ∷ v) (b ∷ w) =
    pick (pair_same a b)
    (λ e. pick (place_same v w) (λ f. inl cc) (λ n. inr (λ g. n cc)))
    (λ n. inr (λ g. n cc))

pub use_same : (i j u v : ℕ) → use_of i u ≡ use_of j v → (i ≡ j) × (u ≡ v)
use_same i j u v h = (ap (λ (a : Pair). a.child) h, ap (λ (a : Pair). a.use_no) h)
