-- Steps of a place are equal where their numbers are.
use Rattle.std.proofs.Common.{◌≡◌, ℕ, ap, ◌∙◌}
use Rattle.guide_tree.specs.Places.{Pair, use_of}

pub pair_is : (a b : Pair) → a.child ≡ b.child → a.use_no ≡ b.use_no → a ≡ b
pair_is a b e f = ap (λ (n : ℕ). use_of n a.use_no) e ∙ ap (λ (n : ℕ). use_of b.child n) f
