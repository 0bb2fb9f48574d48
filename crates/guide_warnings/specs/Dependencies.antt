-- X12.6, code lists (own): the dependencies that ask for a code which the element can't have of which they speak.
use Rattle.std.specs.Prelude.{ℕ, ◌+◌, List, [], ◌∷◌, ◌++◌, Option, None, Some}
use Rattle.std.specs.List.{find}
use Rattle.guide_tree.specs.Words.{Trees, labelled}
use Rattle.guide_tree.specs.declared.element.SimpleRow.{SimpleRow}
use Rattle.guide_tree.specs.declared.rows.Dependency.{Dependency}
use Rattle.guide_tree.specs.declared.slot.Slot.{Slot}
use Rattle.guide_warnings.specs.Codes.{is_not_listed}
use Rattle.guide_warnings.specs.Rows.{row_at}
use Rattle.guide_warnings.specs.declared.warning.Warning.{Warning}
use Rattle.guide_warnings.specs.declared.warning.Warning.TheVariants as warning

abbrev pub code_warning : (number : ℕ) → Dependency → Slot → Option (List ℕ) → List Warning
code_warning number d s None = []
code_warning number d s (Some code) =
    warning.CodeOfDependency (record { dependency = number; slot = s.number; id = s.id; element = d.at; code = code }) ∷ []

-- the first of its codes that the row's list doesn't have
abbrev pub row_warning : (number : ℕ) → Dependency → Slot → Option SimpleRow → List Warning
row_warning number d s None = []
row_warning number d s (Some row) = code_warning number d s (find (is_not_listed row) d.codes)

-- the element of the segment position that its label names
abbrev pub slot_warning : (number : ℕ) → Dependency → Option Slot → List Warning
slot_warning number d None = []
slot_warning number d (Some s) = row_warning number d s (row_at s d.at)

-- of each dependency, the first having this number
abbrev pub dependency_warnings : Trees → (number : ℕ) → List Dependency → List Warning
dependency_warnings nodes number [] = []
dependency_warnings nodes number (d ∷ ds) =
    slot_warning number d (labelled nodes d.slot) ++ dependency_warnings nodes (number + 1) ds
