-- What a guide has that a names file may have words for (own): its segments, labels, elements and codes, used or not.
use Rattle.std.specs.Prelude.{ℕ, Option, None, Some, List, [], ◌∷◌, ◌++◌, map}
use Rattle.std.specs.List.{flat_map}
use Rattle.guide_tree.specs.Words.{GuideTree, Tree, Trees, segment, loop, no_trees, tree}
use Rattle.guide_tree.specs.declared.element.CodeList.{CodeList}
use Rattle.guide_tree.specs.declared.element.SimpleRow.{SimpleRow}
use Rattle.guide_tree.specs.declared.element.CompositeRow.{CompositeRow}
use Rattle.guide_tree.specs.declared.element.Component.{Component}
use Rattle.guide_tree.specs.declared.element.Component.TheVariants as component
use Rattle.guide_tree.specs.declared.element.Element.{Element}
use Rattle.guide_tree.specs.declared.element.Element.TheVariants as element
use Rattle.guide_tree.specs.declared.slot.Slot.{Slot}
use Rattle.guide_names.specs.Subjects.{code_subject, element_subject, label_subject, segment_subject}

abbrev pub codes_of : (reference : List ℕ) → List (List ℕ) → List (List ℕ)
codes_of reference codes = map (code_subject reference) codes

abbrev pub unused_of : (reference : List ℕ) → Option (List (List ℕ)) → List (List ℕ)
unused_of reference None = []
unused_of reference (Some codes) = codes_of reference codes

abbrev pub listed_of : (reference : List ℕ) → Option CodeList → List (List ℕ)
listed_of reference None = []
listed_of reference (Some list) = codes_of reference list.used ++ unused_of reference list.unused

abbrev pub row_of : SimpleRow → List (List ℕ)
row_of r = element_subject r.reference ∷ listed_of r.reference r.codes

abbrev pub component_of : Component → List (List ℕ)
component_of (component.NotUsed reference) = element_subject reference ∷ []
component_of (component.Simple r) = row_of r

abbrev pub composite_of : CompositeRow → List (List ℕ)
composite_of r = element_subject r.reference ∷ flat_map component_of r.components

abbrev pub element_of : Element → List (List ℕ)
element_of (element.NotUsed reference) = element_subject reference ∷ []
element_of (element.Simple r repeat) = row_of r
element_of (element.Composite r) = composite_of r

abbrev pub label_of : Option (List ℕ) → List (List ℕ)
label_of None = []
label_of (Some label) = label_subject label ∷ []

abbrev pub slot_of : Slot → List (List ℕ)
slot_of s = segment_subject s.id ∷ (label_of s.label ++ flat_map element_of s.elements)

abbrev mutual
  pub node_of : Tree → List (List ℕ)
  node_of (segment s) = slot_of s
  node_of (loop l ts) = nodes_of ts

  pub nodes_of : Trees → List (List ℕ)
  nodes_of no_trees = []
  nodes_of (tree t ts) = node_of t ++ nodes_of ts

-- the segments of its dictionary are among them
abbrev pub subjects_of : GuideTree → List (List ℕ)
subjects_of g = map segment_subject g.head.dictionary ++ nodes_of g.nodes
