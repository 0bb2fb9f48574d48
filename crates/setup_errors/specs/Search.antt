-- Own: the node at a place of nodes and of what is in them, a loop before what is in it, from 0 on; or how far the place is after them
-- (no public clause cites these).
use denote.Bor.{Bor}
use Rattle.std.specs.Prelude.{ℕ, zero, suc, Option, None, Some, option_map}
use Rattle.guide_tree.specs.declared.node.Node.{Node}
use Rattle.guide_tree.specs.Words.{Tree, Trees, loop, no_trees, numbered_in, segment, tree, view}
use Rattle.setup_errors.specs.declared.nodes.Search.{Search}
use Rattle.setup_errors.specs.declared.nodes.Search.TheVariants as search

-- a node that was found, or how many are left to go
pub data Found : Type 0 where
  at : Tree → Found
  behind : ℕ → Found

-- what is found in the nodes that follow, where it wasn't found before
abbrev pub or_in : Found → (ℕ → Found) → Found
or_in (at t) next = at t
or_in (behind left) next = next left

abbrev mutual
  pub found_in : Tree → ℕ → Found
  found_in t zero = at t
  found_in (segment s) (suc n) = behind n
  found_in (loop l ts) (suc n) = found ts n

  pub found : Trees → ℕ → Found
  found no_trees n = behind n
  found (tree t ts) n = or_in (found_in t n) (found ts)

abbrev pub seen : Search → Found
seen (search.At node) = at (view node.now)
seen (search.Behind left) = behind left

-- a node, with the number that it has among nodes numbered so
abbrev pub with_number : ℕ → Option Tree → Option Tree
with_number number o = option_map (numbered_in number) o

abbrev pub numbered_found : ℕ → Found → Option Tree
numbered_found number (at t) = Some (numbered_in number t)
numbered_found number (behind left) = None

-- what a node that is lent represents
abbrev pub viewed : Option (Bor Node) → Option Tree
viewed o = option_map (λ n. view n.now) o
