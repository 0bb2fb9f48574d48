-- Own: the labels of segment positions that no dependency names, in the order of the nodes.
use Rattle.std.specs.Prelude.{ℕ, Bool, ◌||◌, List, [], ◌∷◌, ◌++◌, Option, None, Some, if◌then◌else◌}
use Rattle.std.specs.List.{list_any}
use Rattle.std.specs.Str.{bytes_eq}
use Rattle.guide_tree.specs.Words.{Tree, Trees, loop, no_trees, segment, tree}
use Rattle.guide_tree.specs.declared.rows.Dependency.{Dependency}
use Rattle.guide_tree.specs.declared.slot.Slot.{Slot}
use Rattle.guide_warnings.specs.declared.warning.Warning.{Warning}
use Rattle.guide_warnings.specs.declared.warning.Warning.TheVariants as warning

-- some dependency speaks of it
abbrev pub is_named : List Dependency → (label : List ℕ) → Bool
is_named depends label = list_any (λ d. bytes_eq d.slot label || bytes_eq d.target label) depends

abbrev pub label_warning : List Dependency → Slot → (label : List ℕ) → List Warning
label_warning depends s label =
    if is_named depends label then [] else warning.UnnamedLabel (record { slot = s.number; id = s.id; label = label }) ∷ []

abbrev pub slot_labels : List Dependency → Slot → (label : Option (List ℕ)) → List Warning
slot_labels depends s None = []
slot_labels depends s (Some label) = label_warning depends s label

abbrev mutual
  pub node_labels : List Dependency → Tree → List Warning
  node_labels depends (segment s) = slot_labels depends s s.label
  node_labels depends (loop l ts) = nodes_labels depends ts

  pub nodes_labels : List Dependency → Trees → List Warning
  nodes_labels depends no_trees = []
  nodes_labels depends (tree t ts) = node_labels depends t ++ nodes_labels depends ts
