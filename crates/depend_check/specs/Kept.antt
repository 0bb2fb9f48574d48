-- Own: a set keeps the dependencies of its guide, looked at alone: over its segments, each with the slot that a derivation gives it.
use Rattle.std.specs.Prelude.{ℕ, zero, suc, IsTrue, IsFalse, List}
use Rattle.std.specs.List.{Contains, list_any}
use Rattle.x12_bytes.specs.declared.delims.Delims.{Delims}
use Rattle.guide_tree.specs.declared.rows.Dependency.{Dependency}
use Rattle.guide_tree.specs.declared.rows.DependencyKind.{DependencyKind}
use Rattle.guide_tree.specs.declared.rows.DependencyKind.TheVariants as kind
use Rattle.guide_tree.specs.Words.{Given}
use Rattle.depend_check.specs.Standing.{stands_at, fills, triggers}

-- What a dependency asks of segments with their slots: a needed slot is some segment's, a banned one none's; each segment of
-- the slot has a needed element, none has a banned one.
abbrev pub IsTargetKept : Delims → List Given → (label : List ℕ) → DependencyKind → (element : ℕ) → Type 0
IsTargetKept delims xs label kind.Need zero = IsTrue (list_any (stands_at label) xs)
IsTargetKept delims xs label kind.Ban zero = IsFalse (list_any (stands_at label) xs)
IsTargetKept delims xs label kind.Need (suc e) =
    (x : Given) → Contains xs x → IsTrue (stands_at label x) → IsTrue (fills delims (suc e) x)
IsTargetKept delims xs label kind.Ban (suc e) =
    (x : Given) → Contains xs x → IsTrue (stands_at label x) → IsFalse (fills delims (suc e) x)

-- each dependency that is triggered is kept
abbrev pub AreDependenciesKept : List Dependency → Delims → List Given → Type 0
AreDependenciesKept depends delims xs =
    (d : Dependency) → Contains depends d → IsTrue (list_any (triggers d) xs) → IsTargetKept delims xs d.target d.kind d.element
