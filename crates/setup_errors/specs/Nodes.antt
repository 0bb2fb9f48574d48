-- X12.6, transaction set; the numbers are own: the node with a number, what it is called, and which segments fit it.
use Rattle.std.specs.Prelude.{◌≡◌, ⊤, true, ℕ, ◌==◌, List, [], ◌∷◌, Option, Some, None, if◌then◌else◌}
use Rattle.std.specs.Option.{option_map_or}
use Rattle.guide_tree.specs.Words.{Tree, Trees, loop, no_trees, or_else, segment, tree, fits}

-- the id of a segment's slot, or of a loop
abbrev pub node_id : Tree → List ℕ
node_id (segment s) = s.id
node_id (loop l ts) = l.id

-- the node with a number, a segment or a loop
abbrev mutual
  pub numbered_node_in : ℕ → Tree → Option Tree
  numbered_node_in number (segment s) = if s.number == number then Some (segment s) else None
  numbered_node_in number (loop l ts) = if l.number == number then Some (loop l ts) else numbered_node number ts

  pub numbered_node : ℕ → Trees → Option Tree
  numbered_node number no_trees = None
  numbered_node number (tree t ts) = or_else (numbered_node_in number t) (numbered_node number ts)

-- what the node with a number is called; nothing where no node has it
abbrev pub id_at : Trees → ℕ → List ℕ
id_at ts number = option_map_or node_id (numbered_node number ts) []

-- the node is a segment's, and a segment fits its slot
abbrev pub FitsNode : List (List ℕ) → Option Tree → Type 0
FitsNode s None = ⊥
FitsNode s (Some (segment slot)) = fits slot s ≡ true
FitsNode s (Some (loop l ts)) = ⊥

-- a segment fits the slots of both nodes
abbrev pub FitsBoth : Option Tree → Option Tree → List (List ℕ) → Type 0
FitsBoth first second s = FitsNode s first × FitsNode s second

-- what is shown of the slots with two numbers: nothing, or a segment that fits both
abbrev pub IsCommon : Trees → (first second : ℕ) → List (List ℕ) → Type 0
IsCommon ts first second [] = ⊤
IsCommon ts first second (id ∷ elements) =
    FitsBoth (numbered_node first ts) (numbered_node second ts) (id ∷ elements)
