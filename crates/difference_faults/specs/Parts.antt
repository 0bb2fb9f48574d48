-- X12.6, transaction set: what of a guide a difference is of.
use Rattle.std.specs.Prelude.{ℕ, ◌≡◌, ◌+◌, ◌==◌, Bool, true, false, List, [], Some, option_map, if◌then◌else◌}
use Rattle.std.specs.Option.{option_map_or}
use Rattle.guide_tree.specs.Words.{GuideTree, Trees, labelled, or_else, slot_numbered}
use Rattle.guide_tree.specs.declared.rows.Dependency.{Dependency}
use Rattle.guide_widening.specs.Differences.{dependency_value, pair_value}
use Rattle.guide_widening.specs.NodeDifferences.{condition_value}
use Rattle.guide_widening.specs.declared.difference.Difference.{Difference}
use Rattle.guide_widening.specs.declared.difference.Key.{Key}
use Rattle.guide_widening.specs.declared.difference.Key.TheVariants as key
use Rattle.guide_widening.specs.declared.difference.Value.{Value}
use Rattle.guide_widening.specs.declared.difference.Value.TheVariants as value
use Rattle.difference_faults.specs.declared.part.Part.{Part}
use Rattle.difference_faults.specs.declared.part.Part.TheVariants as part

-- the number after this one; numbers have 32 bits
abbrev pub next_number : ℕ → ℕ
next_number n = if n == 4294967295 then n else n + 1

-- the id of the segment with this number; of the first segment, if it is a loop's
abbrev pub id_at : Trees → (number : ℕ) → List ℕ
id_at ts number = option_map_or (λ s. s.id) (or_else (slot_numbered ts number) (slot_numbered ts (next_number number))) []

-- the new guide has the node no more
abbrev pub is_gone : Key → (new : Value) → Bool
is_gone key.Node value.Nothing = true
is_gone key new = false

-- the id of the node that differs; one that is gone is a node of the old guide
abbrev pub id_of : (old new : GuideTree) → Difference → List ℕ
id_of old new d = id_at (if is_gone d.key d.new then old.nodes else new.nodes) d.at.node

-- the dependency that is new, and the number of its target in the new guide
pub record IsTarget (new : GuideTree) (d : Difference) (r : Dependency) (slot : ℕ) : Type 0 where
  pub key : d.key ≡ key.Dependency
  pub written : d.new ≡ dependency_value r
  pub target : option_map (λ s. s.number) (labelled new.nodes r.target) ≡ Some slot

-- what a difference is of: a segment or a loop by its id, a dependency, a condition, or a pair of levels
abbrev pub IsPart : (old new : GuideTree) → Difference → Part → Type 0
IsPart old new d (part.Segment id) = id.now ≡ id_of old new d
IsPart old new d (part.Target r slot) = IsTarget new d r.now slot
IsPart old new d (part.Condition c) = (d.key ≡ key.Condition) × (d.new ≡ condition_value c.now)
IsPart old new d (part.Levels p) = (d.key ≡ key.Pair) × (d.old ≡ pair_value p.now)
