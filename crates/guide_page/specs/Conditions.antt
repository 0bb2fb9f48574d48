-- Relational conditions and picks of a segment, and the dependencies of a guide (own words).
use Rattle.std.specs.Prelude.{ℕ, ◌==◌, Option, None, Some, List, [], ◌∷◌, ◌++◌, codes, decimal, if◌then◌else◌}
use Rattle.std.specs.List.{flat_map}
use Rattle.guide_tree.specs.declared.slot.Condition.{Condition}
use Rattle.guide_tree.specs.declared.slot.Pick.{Pick}
use Rattle.guide_tree.specs.declared.slot.Relation.{Relation}
use Rattle.guide_tree.specs.declared.slot.Relation.TheVariants.{Paired, Required, Exclusion, Conditional, ListConditional}
use Rattle.guide_tree.specs.declared.rows.Dependency.{Dependency}
use Rattle.guide_tree.specs.declared.rows.DependencyKind.{DependencyKind}
use Rattle.guide_tree.specs.declared.rows.DependencyKind.TheVariants.{Need, Ban}
use Rattle.guide_page.specs.Elements.{element_name}
use Rattle.guide_page.specs.Tags.{code_part, codes_part}

abbrev pub relation_words : Relation → List ℕ
relation_words Paired = codes "<li>All or none of "
relation_words Required = codes "<li>At least one of "
relation_words Exclusion = codes "<li>At most one of "
relation_words Conditional = codes "<li>If the first is there, all others: "
relation_words ListConditional = codes "<li>If the first is there, at least one other: "

abbrev pub position_part : (id : List ℕ) → (position : ℕ) → List ℕ
position_part id position = code_part (element_name id position)

abbrev pub condition_item : (id : List ℕ) → Condition → List ℕ
condition_item id c = relation_words c.relation ++ (flat_map (position_part id) c.positions ++ codes "</li>\n")

-- a segment is one of this place only with these codes
abbrev pub pick_item : (id : List ℕ) → Pick → List ℕ
pick_item id p =
    codes "<li>Only if " ++ (position_part id p.position ++ (codes "is one of " ++ (codes_part p.codes ++ codes "</li>\n")))

abbrev pub kind_words : DependencyKind → List ℕ
kind_words Need = codes "must be there</li>\n"
kind_words Ban = codes "must not be there</li>\n"

-- the whole segment, or an element of it
abbrev pub target_part : (target : List ℕ) → (element : ℕ) → List ℕ
target_part target element =
    if element == 0 then code_part target else codes "element " ++ (decimal element ++ (codes " of " ++ code_part target))

abbrev pub trigger_part : Dependency → List ℕ
trigger_part d =
    codes "<li>If element " ++ (decimal d.at ++ (codes " of " ++ (code_part d.slot ++ (codes "is one of " ++ (codes_part d.codes ++ codes
    ": ")))))

abbrev pub dependency_item : Dependency → List ℕ
dependency_item d = trigger_part d ++ (target_part d.target d.element ++ kind_words d.kind)
