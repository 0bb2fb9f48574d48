-- Numbered nodes: their number, their nesting, and the first that fails a test.
use Rattle.std.proofs.Common.{◌≡◌, ℕ, ◌+◌, ◌<◌, ◌≤◌, ◌⊎◌, inl, inr, max, Bool, true, false, cond, Option, Some, None}
use Rattle.std.proofs.Common.{refl, ap, ◌∙◌, arith}
use Rattle.guide_tree.specs.Tree.{Tree, Trees, segment, loop, no_trees, tree, count_in, node_count, nesting_in}
use Rattle.guide_tree.specs.Tree.{nesting, numbered_in, numbered, node_number, AnyIn, AnyNode, or_else}
use Rattle.guide_tree.specs.Faults.{FailsAt}
use Rattle.guide_tree.specs.Rules.{first_failing_in, first_failing}

mutual
  pub count_in-numbered : (n : ℕ) (t : Tree) → count_in (numbered_in n t) ≡ count_in t
  count_in-numbered n (segment s) = refl
  count_in-numbered n (loop l ts) = ap (λ (k : ℕ). k + 1) (node_count-numbered (n + 1) ts)

  pub node_count-numbered : (n : ℕ) (ts : Trees) → node_count (numbered n ts) ≡ node_count ts
  node_count-numbered n no_trees = refl
  node_count-numbered n (tree t ts) = let a = count_in-numbered n t in let b =
      node_count-numbered (n + count_in t) ts in omega arith

mutual
  pub nesting_in-numbered : (n : ℕ) (t : Tree) → nesting_in (numbered_in n t) ≡ nesting_in t
  nesting_in-numbered n (segment s) = refl
  nesting_in-numbered n (loop l ts) = ap (λ (k : ℕ). k + 1) (nesting-numbered (n + 1) ts)

  pub nesting-numbered : (n : ℕ) (ts : Trees) → nesting (numbered n ts) ≡ nesting ts
  nesting-numbered n no_trees = refl
  nesting-numbered n (tree t ts) =
      ap (λ (k : ℕ). max k (nesting (numbered (n + count_in t) ts))) (nesting_in-numbered n t)
      ∙ ap (max (nesting_in t)) (nesting-numbered (n + count_in t) ts)

mutual
  numbered_in-again : (n : ℕ) (t : Tree) → numbered_in n (numbered_in n t) ≡ numbered_in n t
  numbered_in-again n (segment s) = refl
  numbered_in-again n (loop l ts) = ap (loop (record l { number = n })) (numbered-again (n + 1) ts)

  -- numbers that are there stay
  pub numbered-again : (n : ℕ) (ts : Trees) → numbered n (numbered n ts) ≡ numbered n ts
  numbered-again n no_trees = refl
  numbered-again n (tree t ts) =
      ap (λ (u : Tree). tree u (numbered (n + count_in (numbered_in n t)) (numbered (n + count_in t) ts)))
      (numbered_in-again n t)
      ∙ ap (λ (k : ℕ). tree (numbered_in n t) (numbered (n + k) (numbered (n + count_in t) ts))) (count_in-numbered n t)
      ∙ ap (tree (numbered_in n t)) (numbered-again (n + count_in t) ts)

abbrev Among : (Tree → Type 0) → ℕ → Tree → Type 0
Among Q k t = (node_number t ≡ k) × Q t

abbrev Between : ℕ → ℕ → ℕ → Type 0
Between n size k = (n ≤ k) × (k < n + size)

mutual
  any_in_between : (Q : Tree → Type 0) (n k : ℕ) (t : Tree) → AnyIn (Among Q k) (numbered_in n t)
      → Between n (count_in t) k
  any_in_between Q n k (segment s) h = let e : n ≡ k = h.0 in (omega arith, omega arith)
  any_in_between Q n k (loop l ts) (inl h) = let e : n ≡ k = h.0 in (omega arith, omega arith)
  any_in_between Q n k (loop l ts) (inr h) = let b = any_between Q (n + 1) k ts h in
      (omega (arith, b.0), omega (arith, b.1))

  -- the numbers from n on, as many as there are nodes
  pub any_between : (Q : Tree → Type 0) (n k : ℕ) (ts : Trees)
      → AnyNode (λ t. (node_number t ≡ k) × Q t) (numbered n ts) → (n ≤ k) × (k < n + node_count ts)
  any_between Q n k no_trees h = absurd h
  any_between Q n k (tree t ts) (inl h) = let b = any_in_between Q n k t h in (b.0, omega (arith, b.1))
  any_between Q n k (tree t ts) (inr h) = let b = any_between Q (n + count_in t) k ts h in
      (omega (arith, b.0), omega (arith, b.1))

-- the least number of which F holds, or that it holds of none
abbrev pub IsLeastOf : (ℕ → Type 0) → Option ℕ → Type 0
IsLeastOf F None = (k : ℕ) → F k → ⊥
IsLeastOf F (Some n) = F n × ((k : ℕ) → F k → n ≤ k)

least_of_both : (F G : ℕ → Type 0) (m : ℕ) (a b : Option ℕ) → ((k : ℕ) → F k → k < m) → ((k : ℕ) → G k → m ≤ k)
    → IsLeastOf F a → IsLeastOf G b → IsLeastOf (λ k. F k ⊎ G k) (or_else a b)
least_of_both F G m (Some n) b f g x y = (
  inl x.0,
  λ k h. elim h [
    | inl p ↦ x.1 k p
    | inr q ↦ (let u = f n x.0 in let v = g k q in omega arith)
  ],
)
least_of_both F G m None None f g x y = λ k h. elim h [ inl p ↦ x k p | inr q ↦ y k q ]
least_of_both F G m None (Some n) f g x y = (inr y.0, λ k h. elim h [ inl p ↦ absurd (x k p) | inr q ↦ y.1 k q ])

least_alone : (b : Bool) (n : ℕ) → IsLeastOf (λ k. (n ≡ k) × (b ≡ false)) (cond b None (Some n))
least_alone true n = λ k h. (let e : true ≡ false = h.1 in cc)
least_alone false n = ((refl, refl), λ k h. (let e : n ≡ k = h.0 in omega arith))

least_above : (b : Bool) (n : ℕ) (G : ℕ → Type 0) (r : Option ℕ) → ((k : ℕ) → G k → n + 1 ≤ k) → IsLeastOf G r
    → IsLeastOf (λ k. ((n ≡ k) × (b ≡ false)) ⊎ G k) (cond b r (Some n))
least_above true n G None g y = λ k h. elim h [ inl p ↦ (let e : true ≡ false = p.1 in cc) | inr q ↦ y k q ]
least_above true n G (Some m) g y =
    (inr y.0, λ k h. elim h [ inl p ↦ (let e : true ≡ false = p.1 in cc) | inr q ↦ y.1 k q ])
least_above false n G r g y = (
  inl (refl, refl),
  λ k h. elim h [
    | inl p ↦ (let e : n ≡ k = p.0 in omega arith)
    | inr
        q ↦ (let u = g k q in omega arith)
  ],
)

mutual
  first_failing_in_least : (test : Tree → Bool) (n : ℕ) (t : Tree)
      → IsLeastOf (λ k. AnyIn (λ u. (node_number u ≡ k) × (test u ≡ false)) (numbered_in n t))
      (first_failing_in test (numbered_in n t))
  first_failing_in_least test n (segment s) = least_alone (test (numbered_in n (segment s))) n
  first_failing_in_least test n (loop l ts) =
      least_above (test (numbered_in n (loop l ts))) n (FailsAt test (numbered (n + 1) ts))
      (first_failing test (numbered (n + 1) ts))
      (λ k h. (any_between (λ u. test u ≡ false) (n + 1) k ts h).0) (first_failing_least test (n + 1) ts)

  -- the first that fails is the least
  pub first_failing_least : (test : Tree → Bool) (n : ℕ) (ts : Trees)
      → IsLeastOf (FailsAt test (numbered n ts)) (first_failing test (numbered n ts))
  first_failing_least test n no_trees = λ k h. h
  first_failing_least test n (tree t ts) = least_of_both
      (λ k. AnyIn (λ u. (node_number u ≡ k) × (test u ≡ false)) (numbered_in n t))
      (FailsAt test (numbered (n + count_in t) ts))
      (n + count_in t) (first_failing_in test (numbered_in n t)) (first_failing test (numbered (n + count_in t) ts))
      (λ k h. (any_in_between (λ u. test u ≡ false) n k t h).1)
      (λ k h. (any_between (λ u. test u ≡ false) (n + count_in t) k ts h).0)
      (first_failing_in_least test n t)
      (first_failing_least test (n + count_in t) ts)
