-- The rows of guides, as the worked nights write them.
use Rattle.std.specs.Prelude.{ℕ, Bool, List, [], ◌∷◌, Option}
use Rattle.guide_tree.specs.Tree.{Tree, Trees, segment, no_trees, tree}
use Rattle.guide_tree.specs.declared.slot.Pick.{Pick}
use Rattle.guide_tree.specs.declared.slot.Condition.{Condition}
use Rattle.guide_tree.specs.declared.element.CodeList.{CodeList}
use Rattle.guide_tree.specs.declared.element.SimpleRow.{SimpleRow}
use Rattle.guide_tree.specs.declared.element.Requirement.{Requirement}
use Rattle.guide_tree.specs.declared.element.ElementType.{ElementType}
use Rattle.guide_tree.specs.declared.element.Element.{Element}

abbrev pub simple : List ℕ → Requirement → ElementType → ℕ → ℕ → Bool → Option CodeList → SimpleRow
simple reference requirement type least most wide listed =
    record { reference = reference; requirement = requirement; data_type = type; min = least; max = most; wide = wide; codes = listed }

abbrev pub slot : ℕ → List ℕ → Option (List ℕ) → ℕ → ℕ → List Pick → List Element → List Condition → Tree
slot number id label least most picks elements conditions =
    segment (record {
      number = number;
      id = id;
      label = label;
      min = least;
      max = most;
      picks = picks;
      elements = elements;
      conditions = conditions;
    })

abbrev pub trees : List Tree → Trees
trees [] = no_trees
trees (t ∷ ts) = tree t (trees ts)
