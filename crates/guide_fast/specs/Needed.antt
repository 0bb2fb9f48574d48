-- 999 guide, IK304, required segment missing (own): how many of some nodes are needed.
use Rattle.std.specs.Prelude.{ℕ, ◌+◌, List, [], ◌∷◌, Bool, nat_le, if◌then◌else◌}
use Rattle.guide_tree.specs.declared.node.Node.{Node}
use Rattle.guide_tree.specs.Words.{Tree, Trees, no_trees, tree, min_of, view}

abbrev pub is_needed : Tree → Bool
is_needed t = nat_le 1 (min_of t)

abbrev pub with_needed : Tree → ℕ → ℕ
with_needed t n = if is_needed t then n + 1 else n

abbrev pub needed : Trees → ℕ
needed no_trees = 0
needed (tree t ts) = with_needed t (needed ts)

-- the count before each node and after the last, where n are needed before them
abbrev pub counts_from : (n : ℕ) → List Node → List ℕ
counts_from n [] = n ∷ []
counts_from n (m ∷ ms) = n ∷ counts_from (with_needed (view m) n) ms
