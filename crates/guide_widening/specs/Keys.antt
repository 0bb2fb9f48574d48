-- Own: keys by which a relational condition, a pair of levels and a code of a dependency are found among others. Private.
use Rattle.std.specs.Prelude.{ℕ, List, [], ◌∷◌, ◌++◌, length, map, Option, Some, None}
use Rattle.guide_tree.specs.declared.rows.Dependency.{Dependency}
use Rattle.guide_tree.specs.declared.rows.DependencyKind.{DependencyKind}
use Rattle.guide_tree.specs.declared.rows.DependencyKind.TheVariants.{Need, Ban}
use Rattle.guide_tree.specs.declared.rows.HlPair.{HlPair}
use Rattle.guide_tree.specs.declared.slot.Condition.{Condition}
use Rattle.guide_widening.specs.Nodes.{relation_number}

abbrev pub condition_key : Condition → List ℕ
condition_key c = relation_number c.relation ∷ c.positions

-- a text after its length, so that it is plain where it ends
abbrev pub measured : List ℕ → List ℕ
measured text = length text ∷ text

abbrev pub level_key : Option (List ℕ) → List ℕ
level_key None = 0 ∷ []
level_key (Some level) = 1 ∷ measured level

abbrev pub pair_key : HlPair → List ℕ
pair_key pair = level_key pair.parent ++ pair.child

abbrev pub kind_number : DependencyKind → ℕ
kind_number Need = 0
kind_number Ban = 1

abbrev pub dependency_key : Dependency → (code : List ℕ) → List ℕ
dependency_key d code = kind_number d.kind ∷ d.at ∷ d.element ∷ (measured d.slot ++ (measured d.target ++ code))

-- a key for each code of a dependency
abbrev pub code_keys : Dependency → List (List ℕ)
code_keys d = map (dependency_key d) d.codes
