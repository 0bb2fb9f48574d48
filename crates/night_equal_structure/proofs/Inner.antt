-- What is wrong in a repetition of a parent, child by child, in the words of the layers.
use Rattle.std.specs.Prelude.{◌≡◌, ℕ, ◌+◌, ◌-◌, ◌≤◌, ◌⊎◌, List, [], ◌∷◌, ◌++◌, Option}
use Rattle.hub_kinds.specs.declared.fault.Fault.{Fault}
use Rattle.hub_kinds.specs.declared.codes.SegmentCode.{SegmentCode}
use Rattle.hub_kinds.specs.declared.codes.SegmentCode.TheVariants as ik304
use Rattle.guide_tree.specs.Tree.{Tree, Trees, segment, loop, no_trees, tree}
use Rattle.guide_tree.specs.Structure.{Begins, Has, IsFirstAt, IsReportedAt}
use Rattle.night_definition.specs.Guides.{min_of, max_of}
use Rattle.night_definition.specs.Places.{Place}
use Rattle.night_definition.specs.Structure.{node_fault, past_code, few_code}
use Rattle.night_equal_set.specs.Placings.{place}
use Rattle.night_equal_structure.proofs.Given.{given}

-- some segment has a place in this use
abbrev pub HasUse : List (Option Place) → (pre : Place) → (k u : ℕ) → Type 0
HasUse g pre k u = Has (given g) (place (pre ++ (k, u) ∷ []))

abbrev pub PastAt : List (Option Place) → (pre : Place) → (outer : List ℕ) → Tree → (k : ℕ) → Fault → Type 0
PastAt g pre outer t k f =
    (u : ℕ) × (max_of t ≤ u) × (n : ℕ) × IsFirstAt (Begins (place (pre ++ (k, u) ∷ []))) (given g) n
    × (f ≡ node_fault outer t (n + 2) (past_code t))

abbrev pub Few : List (Option Place) → (pre : Place) → Tree → (k : ℕ) → SegmentCode → Type 0
Few g pre t k code =
    (¬ HasUse g pre k 0 × (code ≡ ik304.RequiredSegmentMissing))
    ⊎ (HasUse g pre k 0 × ¬ HasUse g pre k (min_of t - 1) × (code ≡ few_code t))

abbrev pub ShortAt : List (Option Place) → (end : ℕ) → (pre : Place) → (outer : List ℕ) → Tree → (k : ℕ) → Fault → Type 0
ShortAt g end pre outer t k f =
    (n : ℕ) × (code : SegmentCode) × (1 ≤ min_of t) × Few g pre t k code × IsReportedAt (given g) end (place pre) k n
    × (f ≡ node_fault outer t n code)

abbrev mutual
  pub UnderAt : List (Option Place) → (end : ℕ) → (pre : Place) → Tree → (k : ℕ) → Fault → Type 0
  UnderAt g end pre (segment s) k f = ⊥
  UnderAt g end pre (loop l ts) k f = (u : ℕ) × HasUse g pre k u × InsideAt g end (pre ++ (k, u) ∷ []) l.id ts 0 f

  pub InsideAt : List (Option Place) → (end : ℕ) → (pre : Place) → (outer : List ℕ) → Trees → (k : ℕ) → Fault → Type 0
  InsideAt g end pre outer no_trees k f = ⊥
  InsideAt g end pre outer (tree t ts) k f =
      PastAt g pre outer t k f ⊎ (ShortAt g end pre outer t k f ⊎ (UnderAt g end pre t k f ⊎ InsideAt g end pre outer ts (k + 1) f))
