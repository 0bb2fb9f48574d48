-- The node with a number among numbered nodes is the one at its place, the nodes counted from the first number on.
use Rattle.std.proofs.Common.{◌≡◌, ◌∙◌, ℕ, zero, suc, ◌+◌, ◌<◌, Option, None, refl, ap, arith}
use Rattle.guide_tree.specs.Words.{Tree, Trees, count_in, loop, no_trees, node_count, numbered, numbered_in, or_else, segment, tree}
use Rattle.setup_errors.specs.Nodes.{node_id, numbered_node, numbered_node_in}
use Rattle.setup_errors.specs.Search.{Found, at, behind, found, found_in, numbered_found, or_in}

left_by : (ts : Trees) (n m size : ℕ) (f : Found) → ((k : ℕ) → f ≡ behind k → n ≡ size + k)
    → ((k : ℕ) → found ts k ≡ behind m → k ≡ node_count ts + m)
    → or_in f (found ts) ≡ behind m → n ≡ (size + node_count ts) + m
left_by ts n m size (at t) one rest e = cc
left_by ts n m size (behind k) one rest e = let a = one k refl in let b = rest k e in omega arith

mutual
  left_in : (t : Tree) (n m : ℕ) → found_in t n ≡ behind m → n ≡ count_in t + m
  left_in t zero m e = cc
  left_in (segment s) (suc n) m e = let same : n ≡ m = cc in omega arith
  left_in (loop l ts) (suc n) m e = let a = left_among ts n m e in omega arith

  -- a place that isn't among nodes is as far after them as is said
  left_among : (ts : Trees) (n m : ℕ) → found ts n ≡ behind m → n ≡ node_count ts + m
  left_among no_trees n m e = let same : n ≡ m = cc in omega arith
  left_among (tree t ts) n m e =
      left_by ts n m (count_in t) (found_in t n) (λ k q. left_in t n k q) (λ k q. left_among ts k m q) e

mutual
  none_in : (first k : ℕ) (t : Tree) → k < first → numbered_node_in k (numbered_in first t) ≡ None
  none_in first k (segment s) h = grind arith
  none_in first k (loop l ts) h = let a = none_below (first + 1) k ts (omega arith) in grind (arith, a)

  -- none has a number below the first
  pub none_below : (first k : ℕ) (ts : Trees) → k < first → numbered_node k (numbered first ts) ≡ None
  none_below first k no_trees h = refl
  none_below first k (tree t ts) h =
      let a = none_in first k t h in let b = none_below (first + count_in t) k ts (omega arith) in
      ap (λ (o : Option Tree). or_else o (numbered_node k (numbered (first + count_in t) ts))) a ∙ b

by_cases : (ts : Trees) (k : ℕ) (f : Found) (x : Option Tree) → ((m : ℕ) → f ≡ behind m → x ≡ numbered_found k (found ts m))
    → or_else (numbered_found k f) x ≡ numbered_found k (or_in f (found ts))
by_cases ts k (at t) x rest = refl
by_cases ts k (behind m) x rest = rest m refl

mutual
  at_in : (first : ℕ) (t : Tree) (n k : ℕ) → k ≡ first + n → numbered_node_in k (numbered_in first t) ≡ numbered_found k (found_in t n)
  at_in first (segment s) zero k e = let same : first ≡ k = omega arith in grind arith
  at_in first (segment s) (suc n) k e = grind arith
  at_in first (loop l ts) zero k e = let same : first ≡ k = omega arith in grind arith
  at_in first (loop l ts) (suc n) k e = let a = at_place (first + 1) ts n k (omega arith) in grind (arith, a)

  pub at_place : (first : ℕ) (ts : Trees) (n k : ℕ) → k ≡ first + n → numbered_node k (numbered first ts) ≡ numbered_found k (found ts n)
  at_place first no_trees n k e = refl
  at_place first (tree t ts) n k e =
      ap (λ (o : Option Tree). or_else o (numbered_node k (numbered (first + count_in t) ts))) (at_in first t n k e)
      ∙ by_cases ts k (found_in t n) (numbered_node k (numbered (first + count_in t) ts))
      (λ m q. let left = left_in t n m q in at_place (first + count_in t) ts m k (omega arith))

pub same_id : (k : ℕ) (t : Tree) → node_id (numbered_in k t) ≡ node_id t
same_id k (segment s) = refl
same_id k (loop l ts) = refl
