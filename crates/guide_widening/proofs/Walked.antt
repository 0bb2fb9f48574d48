-- Nodes before and after a place in a list of nodes.
use Rattle.std.proofs.Common.{◌≡◌, ℕ, zero, suc, List, [], ◌∷◌, drop, take, length, ◌-◌, refl, sym, ap, ◌∙◌, Some, None}
use Rattle.std.proofs.Math.Seq.{take-length}
use Rattle.std.proofs.lemmas.List.{length-drop}
use Rattle.guide_tree.specs.declared.node.Node.{Node}
use Rattle.guide_tree.specs.Words.{Tree, tree, view, nodes_view}
use Rattle.guide_widening.specs.NodeDifferences.{before_same, first_nodes, nodes_from, first_of, same_of, left_of, rest_after}

from_drop : (k : ℕ) (ns : List Node) → nodes_from k (nodes_view ns) ≡ nodes_view (drop k ns)
from_drop zero ns = refl
from_drop (suc k) [] = refl
from_drop (suc k) (n ∷ ns) = from_drop k ns

pub first_take : (k : ℕ) (ns : List Node) → first_nodes k (nodes_view ns) ≡ nodes_view (take k ns)
first_take zero ns = refl
first_take (suc k) [] = refl
first_take (suc k) (n ∷ ns) = ap (tree (view n)) (first_take k ns)

-- all that is left
pub all_left : (k : ℕ) (ns : List Node) → take (length ns - k) (drop k ns) ≡ drop k ns
all_left k ns = ap (λ (n : ℕ). take n (drop k ns)) (sym (length-drop k ns)) ∙ take-length (drop k ns)

empty_list : (ns : List Node) → length ns ≡ 0 → ns ≡ []
empty_list [] e = refl
empty_list (n ∷ ns) e = cc

pub none_left : (k : ℕ) (ns : List Node) → length (take (length ns - k) (drop k ns)) ≡ 0 → drop k ns ≡ []
none_left k ns e = empty_list (drop k ns) (ap length (sym (all_left k ns)) ∙ e)

module _ (t : Tree) (ns : List Node) (k : ℕ) (at : k ≡ before_same t (nodes_view ns)) where
  from_there : nodes_from (before_same t (nodes_view ns)) (nodes_view ns) ≡ nodes_view (drop k ns)
  from_there = ap (λ (j : ℕ). nodes_from j (nodes_view ns)) (sym at) ∙ from_drop k ns

  pub same_none : drop k ns ≡ [] → same_of t (nodes_view ns) ≡ None
  same_none e = ap first_of from_there ∙ ap (λ (l : List Node). first_of (nodes_view l)) e

  pub rest_none : drop k ns ≡ [] → rest_after t (nodes_view ns) ≡ nodes_view ns
  rest_none e = ap (left_of (nodes_view ns)) from_there ∙ ap (λ (l : List Node). left_of (nodes_view ns) (nodes_view l)) e

  pub same_some : (x : Node) (xs : List Node) → drop k ns ≡ x ∷ xs → same_of t (nodes_view ns) ≡ Some (view x)
  same_some x xs e = ap first_of from_there ∙ ap (λ (l : List Node). first_of (nodes_view l)) e

  pub rest_some : (x : Node) (xs : List Node) → drop k ns ≡ x ∷ xs → rest_after t (nodes_view ns) ≡ nodes_view xs
  rest_some x xs e = ap (left_of (nodes_view ns)) from_there ∙ ap (λ (l : List Node). left_of (nodes_view ns) (nodes_view l)) e

  pub first_there : first_nodes (before_same t (nodes_view ns)) (nodes_view ns) ≡ nodes_view (take k ns)
  first_there = ap (λ (j : ℕ). first_nodes j (nodes_view ns)) (sym at) ∙ first_take k ns
