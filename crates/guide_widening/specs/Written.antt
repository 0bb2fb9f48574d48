-- Own: picks, relational conditions, pairs of levels and dependencies, as guide files write them.
use Rattle.std.specs.Prelude.{ℕ, nat_lt, List, [], ◌∷◌, ◌++◌, codes, decimal, Option, Some, None, if◌then◌else◌}
use Rattle.std.specs.List.{flat_map}
use Rattle.guide_tree.specs.declared.rows.Dependency.{Dependency}
use Rattle.guide_tree.specs.declared.rows.DependencyKind.{DependencyKind}
use Rattle.guide_tree.specs.declared.rows.DependencyKind.TheVariants.{Need, Ban}
use Rattle.guide_tree.specs.declared.rows.HlPair.{HlPair}
use Rattle.guide_tree.specs.declared.slot.Condition.{Condition}
use Rattle.guide_tree.specs.declared.slot.Pick.{Pick}
use Rattle.guide_tree.specs.declared.slot.Relation.{Relation}
use Rattle.guide_tree.specs.declared.slot.Relation.TheVariants.{Paired, Required, Exclusion, Conditional, ListConditional}

abbrev pub code_text : List ℕ → List ℕ
code_text code = codes " " ++ code

-- `POSITION CODE CODE ..`
abbrev pub pick_text : Pick → List ℕ
pick_text pick = decimal pick.position ++ flat_map code_text pick.codes

abbrev pub relation_text : Relation → List ℕ
relation_text Paired = codes "P"
relation_text Required = codes "R"
relation_text Exclusion = codes "E"
relation_text Conditional = codes "C"
relation_text ListConditional = codes "L"

-- a position of two digits or more
abbrev pub position_text : (position : ℕ) → List ℕ
position_text position = if nat_lt position 10 then codes "0" ++ decimal position else decimal position

-- a letter and positions, as `P0304`
abbrev pub condition_text : Condition → List ℕ
condition_text condition = relation_text condition.relation ++ flat_map position_text condition.positions

abbrev pub level_text : Option (List ℕ) → List ℕ
level_text None = []
level_text (Some level) = level

-- `PARENT/CHILD`
abbrev pub pair_text : HlPair → List ℕ
pair_text pair = level_text pair.parent ++ (codes "/" ++ pair.child)

abbrev pub kind_text : DependencyKind → List ℕ
kind_text Need = codes "need"
kind_text Ban = codes "ban"

abbrev pub quoted : List ℕ → List ℕ
quoted text = codes "\"" ++ (text ++ codes "\"")

abbrev pub more_text : List ℕ → List ℕ
more_text text = codes ", " ++ quoted text

-- texts with commas between
abbrev pub listed_texts : List (List ℕ) → List ℕ
listed_texts [] = []
listed_texts (text ∷ texts) = quoted text ++ flat_map more_text texts

abbrev pub trigger_text : Dependency → List ℕ
trigger_text depend =
    codes ", slot=" ++ (quoted depend.slot ++ (codes ", at=" ++ (decimal depend.at ++ (codes ", codes=["
    ++ (listed_texts depend.codes ++ codes "]")))))

abbrev pub target_text : Dependency → List ℕ
target_text depend =
    codes ", target=" ++ (quoted depend.target ++ (codes ", element=" ++ (decimal depend.element ++ codes "}")))

-- `{kind="need", slot="HL", at=3, codes=["P"], target="MAN", element=0}`
abbrev pub dependency_text : Dependency → List ℕ
dependency_text depend = codes "{kind=" ++ (quoted (kind_text depend.kind) ++ (trigger_text depend ++ target_text depend))
