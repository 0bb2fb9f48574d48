-- X12.6, hierarchical level segment (own): what a quick look makes sure of, where HLs are numbered from 1 on. Private.
use Rattle.std.specs.Prelude.{ℕ, ◌+◌, ◌<◌, ◌≡◌, ◌⊎◌, IsTrue, IsFalse, codes, decimal, List, [], Some, None, slice_get}
use Rattle.std.specs.Str.{bytes_eq}
use Rattle.x12_bytes.specs.declared.delims.Delims.{Delims}
use Rattle.guide_tree.specs.declared.rows.HlRule.{HlRule}
use Rattle.guide_tree.specs.Words.{Segment}
use Rattle.elem_rules.specs.Divided.{is_filled}
use Rattle.hl_check.specs.Hierarchy.{hierarchical_id_of, parent_id_of, level_of, child_of, is_listed}

-- an earlier HL than the one with count k has the number that HL02 is, doesn't say that it has no children, and is of a level below
-- which this one is listed
pub record IsBelow (rule : HlRule) (delims : Delims) (hls : List Segment) (k : ℕ) (parent level : List ℕ) : Type 0 where
  pub place : ℕ
  pub above : Segment
  pub there : slice_get hls place ≡ Some above
  pub earlier : place < k
  pub named : hierarchical_id_of above ≡ parent
  pub filled : IsTrue (is_filled delims parent)
  pub told : IsFalse (bytes_eq (child_of above) (codes "0"))
  pub listed : IsTrue (is_listed rule (Some (level_of above)) level)

-- HL02 is empty, and HL03 a root's, or it is below an earlier one
abbrev pub IsPlaced : HlRule → Delims → (hls : List Segment) → (k : ℕ) → (parent level : List ℕ) → Type 0
IsPlaced rule delims hls k parent level =
    ((parent ≡ []) × IsTrue (is_listed rule None level)) ⊎ IsBelow rule delims hls k parent level

-- the next HL names this number
pub record IsNamedNext (delims : Delims) (hls : List Segment) (k : ℕ) (number : List ℕ) : Type 0 where
  pub next : Segment
  pub there : slice_get hls (k + 1) ≡ Some next
  pub named : parent_id_of next ≡ number
  pub filled : IsTrue (is_filled delims (parent_id_of next))

-- HL04 doesn't announce children, or the next HL is one
abbrev pub HasChildren : Delims → (hls : List Segment) → (k : ℕ) → (number child : List ℕ) → Type 0
HasChildren delims hls k number child = IsFalse (bytes_eq child (codes "1")) ⊎ IsNamedNext delims hls k number

-- the HL with count k, the first being 0
pub record LooksWhole (rule : HlRule) (delims : Delims) (hls : List Segment) (k : ℕ) (h : Segment) : Type 0 where
  pub number : hierarchical_id_of h ≡ decimal (k + 1)
  pub placed : IsPlaced rule delims hls k (parent_id_of h) (level_of h)
  pub children : HasChildren delims hls k (hierarchical_id_of h) (child_of h)

abbrev pub LooksWholeTo : HlRule → Delims → (hls : List Segment) → (n : ℕ) → Type 0
LooksWholeTo rule delims hls n = (k : ℕ) (h : Segment) → k < n → slice_get hls k ≡ Some h → LooksWhole rule delims hls k h
