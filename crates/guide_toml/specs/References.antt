-- The guide file (own): the reference numbers that it gives to data elements (X12.6, data element reference number): 1 to 4 digits, or
-- none.
use Rattle.std.specs.Prelude.{◌≡◌, ◌⊎◌, IsTrue, List, [], ℕ, Ok}
use Rattle.std.specs.List.{All}
use Rattle.toml.specs.Data.{Members}
use Rattle.hub_kinds.specs.Words.{is_number}
use Rattle.guide_tree.specs.declared.element.Component.{Component}
use Rattle.guide_tree.specs.declared.element.Component.TheVariants as component
use Rattle.guide_tree.specs.declared.element.Element.{Element}
use Rattle.guide_tree.specs.declared.element.Element.TheVariants as element
use Rattle.guide_tree.specs.declared.rows.GuideRows.{GuideRows}
use Rattle.guide_tree.specs.Words.{EachNode, Tree, loop, segment, guide_of}
use Rattle.guide_toml.specs.Answers.{Answers}
use Rattle.guide_toml.specs.Guides.{guide_of_table}

abbrev pub IsReference : List ℕ → Type 0
IsReference reference = (reference ≡ []) ⊎ IsTrue (is_number 4 reference)

abbrev pub HasReference : Component → Type 0
HasReference (component.Simple row) = IsReference row.reference
HasReference (component.NotUsed reference) = IsReference reference

-- a row's own, and those of its components
abbrev pub HasReferences : Element → Type 0
HasReferences (element.Simple row repeat) = IsReference row.reference
HasReferences (element.Composite row) = IsReference row.reference × All HasReference row.components
HasReferences (element.NotUsed reference) = IsReference reference

abbrev pub HasReferencesIn : Tree → Type 0
HasReferencesIn (segment s) = All HasReferences s.elements
HasReferencesIn (loop l ts) = Unit {0}

-- each guide that a table writes has such references
abbrev pub WritesReferences : Type 0
WritesReferences = (t : Members) (rows : GuideRows) → Answers (Ok rows) (guide_of_table t) → EachNode HasReferencesIn (guide_of rows).nodes
