-- Own: what a dependency looks at in a segment with its slot.
use Rattle.std.specs.Prelude.{ℕ, List, Bool, ◌&&◌}
use Rattle.x12_bytes.specs.declared.delims.Delims.{Delims}
use Rattle.hub_kinds.specs.Words.{contains_text}
use Rattle.guide_tree.specs.declared.rows.Dependency.{Dependency}
use Rattle.guide_tree.specs.Words.{has_label, Given, element_at}
use Rattle.elem_rules.specs.Divided.{is_filled}

-- a segment's slot has the label
abbrev pub stands_at : (label : List ℕ) → Given → Bool
stands_at label x = has_label label x.1

-- a segment has the element
abbrev pub fills : Delims → (element : ℕ) → Given → Bool
fills delims element x = is_filled delims (element_at x.0 element)

-- a segment with its slot is a use of the dependency's slot that has one of the listed codes in its element
abbrev pub triggers : Dependency → Given → Bool
triggers d x = stands_at d.slot x && contains_text d.codes (element_at x.0 d.at)
