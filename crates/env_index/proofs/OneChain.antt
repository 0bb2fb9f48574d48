-- A text has one chain of interchanges at most.
use Rattle.std.proofs.Common.{◌≡◌, ℕ, ◌<◌, List, [], ◌∷◌, sym, ap, ◌∙◌, refl, arith}
use Rattle.std.proofs.lemmas.Bool.{both_ways}
use Rattle.x12_bytes.specs.HeaderTest.{is_head}
use Rattle.env_index.specs.Extents.{Extent, IsNextHead, ChainFrom, reach_at}

next_head_is_one : (text : List ℕ) (from a b : ℕ) → IsNextHead text from a → IsNextHead text from b → a ≡ b
next_head_is_one text from a b p q =
    let not_before : a < b → ⊥ = λ lt. both_ways (is_head text a) (q.least a p.behind lt) p.head in
    let not_behind : b < a → ⊥ = λ lt. both_ways (is_head text b) (p.least b q.behind lt) q.head in
    omega (arith, not_before, not_behind)

extent_with : ℕ → ℕ → Extent
extent_with start end = record { start = start; end = end }

pub chain_from_is_one : (text : List ℕ) (from : ℕ) (xs ys : List Extent) → ChainFrom text from xs → ChainFrom text from ys → xs ≡ ys
unfolding extent_with
chain_from_is_one text from [] [] p q = refl
chain_from_is_one text from [] (y ∷ ys) p q = absurd (both_ways (is_head text y.start) (p y.start q.0.behind) q.0.head)
chain_from_is_one text from (x ∷ xs) [] p q = absurd (both_ways (is_head text x.start) (q x.start p.0.behind) p.0.head)
chain_from_is_one text from (x ∷ xs) (y ∷ ys) p q =
    let starts : x.start ≡ y.start = next_head_is_one text from x.start y.start p.0 q.0 in
    let ends : x.end ≡ y.end = p.1 ∙ ap (λ (n : ℕ). (reach_at text n).end) starts ∙ sym q.1 in
    let same : x ≡ y = ap (λ n. extent_with n x.end) starts ∙ ap (λ n. extent_with y.start n) ends in
    let rest : ChainFrom text y.end xs = rw ends at p.2 in
    ap (λ z. z ∷ xs) same ∙ ap (λ zs. y ∷ zs) (chain_from_is_one text y.end xs ys rest q.2)
