-- Own: where a node of a guide is, by the ids of the loops that it is in and its own.
use Rattle.std.specs.Prelude.{ℕ, ◌-◌, List, [], ◌∷◌, ◌++◌, codes}
use Rattle.std.specs.List.{slice_get}
use Rattle.std.specs.Option.{option_map_or}
use Rattle.guide_tree.specs.Words.{Tree, Trees, segment, loop, no_trees, tree}

-- the paths of nodes, a loop before what is in it: so a node's place in this list is its number
abbrev mutual
  pub node_paths : (above : List ℕ) → Tree → List (List ℕ)
  node_paths above (segment s) = (above ++ s.id) ∷ []
  node_paths above (loop l ts) = (above ++ l.id) ∷ nodes_paths (above ++ (l.id ++ codes "/")) ts

  pub nodes_paths : (above : List ℕ) → Trees → List (List ℕ)
  nodes_paths above no_trees = []
  nodes_paths above (tree t ts) = node_paths above t ++ nodes_paths above ts

abbrev pub paths_of : Trees → List (List ℕ)
paths_of ts = nodes_paths [] ts

-- the path of the node with a number from 1 on
abbrev pub path_at : (paths : List (List ℕ)) → (number : ℕ) → List ℕ
path_at paths number = option_map_or (λ path. path) (slice_get paths (number - 1)) []
