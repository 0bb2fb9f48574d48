-- Own: whether segments with their slots keep a dependency, as a test; and the same of segments as they are kept. Private.
use Rattle.std.specs.Prelude.{ℕ, ◌==◌, List, Bool, not, ◌&&◌, ◌||◌, if◌then◌else◌}
use Rattle.std.specs.Prelude.{IsTrue, map}
use Rattle.std.specs.List.{list_any, list_all}
use Rattle.x12_bytes.specs.declared.delims.Delims.{Delims}
use Rattle.guide_tree.specs.declared.rows.Dependency.{Dependency}
use Rattle.guide_tree.specs.declared.rows.DependencyKind.{DependencyKind}
use Rattle.guide_tree.specs.declared.rows.DependencyKind.TheVariants as kind
use Rattle.guide_tree.specs.Words.{GuideTree, Given}
use Rattle.depend_check.specs.Standing.{stands_at, fills, triggers}
use Rattle.hl_check.specs.Hierarchy.{IsHierarchyWhole}
use Rattle.set_walk.specs.declared.kept.SlottedSeg.{SlottedSeg}
use Rattle.set_walk.specs.declared.kept.Kept.{Kept}
use Rattle.set_walk.specs.Kept.{given_in, segment_in}

abbrev pub lacks : Delims → (label : List ℕ) → (element : ℕ) → Given → Bool
lacks delims label element x = stands_at label x && not (fills delims element x)

abbrev pub has : Delims → (label : List ℕ) → (element : ℕ) → Given → Bool
has delims label element x = stands_at label x && fills delims element x

-- by what holds of some segment
abbrev pub target_by : ((Given → Bool) → Bool) → Delims → (label : List ℕ) → DependencyKind → (element : ℕ) → Bool
target_by some delims label kind.Need element =
    if element == 0 then some (stands_at label) else not (some (lacks delims label element))
target_by some delims label kind.Ban element =
    if element == 0 then not (some (stands_at label)) else not (some (has delims label element))

abbrev pub kept_by : ((Given → Bool) → Bool) → Delims → Dependency → Bool
kept_by some delims d = not (some (triggers d)) || target_by some delims d.target d.kind d.element

abbrev pub some_in : List SlottedSeg → (Given → Bool) → Bool
some_in xs test = list_any (λ x. test (given_in x)) xs

-- the rules over the whole set hold of what was kept
abbrev pub AreRulesKept : GuideTree → Delims → Kept → Type 0
AreRulesKept g d k =
    IsHierarchyWhole g.hl d (map segment_in k.hls.items) × IsTrue (list_all (kept_by (some_in k.labelled.items) d) g.depends)
