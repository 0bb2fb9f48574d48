-- 999 guide, IK304: what is wrong with the order and the number of a set's segments. Segments of a set are
-- counted from ST, which is 1, so that the body's first is 2.
use Rattle.std.specs.Prelude.{ℕ, zero, suc, ◌+◌, ◌-◌, ◌≡◌, ◌<◌, ◌≤◌, ◌⊎◌, List, [], ◌∷◌, ◌++◌, Option, Some, None}
use Rattle.std.specs.Prelude.{IfSome, IsSomeAnd, slice_get, ◌==◌, if◌then◌else◌}
use Rattle.std.specs.Str.{bytes_eq}
use Rattle.std.specs.Option.{option_map_or}
use Rattle.hub_kinds.specs.declared.fault.Fault.{Fault}
use Rattle.hub_kinds.specs.declared.codes.SegmentCode.{SegmentCode}
use Rattle.hub_kinds.specs.declared.codes.SegmentCode.TheVariants as ik304
use Rattle.hub_kinds.specs.Words.{contains_text}
use Rattle.guide_tree.specs.Tree.{Tree, Trees, segment, loop, no_trees, tree, GuideTree, node_number, min_of, max_of}
use Rattle.guide_tree.specs.Tree.{any_slot}
use Rattle.guide_tree.specs.Segments.{Segment, segment_id, fits}
use Rattle.guide_tree.specs.Places.{Pair, Place, use_of}

-- the node that a place leads to
abbrev mutual
  pub node_in : Tree → Place → Option Tree
  node_in (segment s) [] = Some (segment s)
  node_in (segment s) (a ∷ q) = None
  node_in (loop l ts) [] = Some (loop l ts)
  node_in (loop l ts) (a ∷ q) = node_nth ts a.child q

  pub node_nth : Trees → ℕ → Place → Option Tree
  node_nth no_trees n q = None
  node_nth (tree t ts) zero q = node_in t q
  node_nth (tree t ts) (suc n) q = node_nth ts n q

abbrev pub node_at : Trees → Place → Option Tree
node_at ts [] = None
node_at ts (a ∷ q) = node_nth ts a.child q

-- the id that a node begins with: its own, or that of a loop's first segment
abbrev pub first_id : Tree → List ℕ
first_id (segment s) = s.id
first_id (loop l no_trees) = []
first_id (loop l (tree (segment s) ts)) = s.id
first_id (loop l (tree (loop k us) ts)) = []

-- the id of the loop that a place leads to; empty where it is none
abbrev pub loop_id_at : Trees → Place → List ℕ
loop_id_at ts q = option_map_or loop_id (node_at ts q) [] where
  loop_id : Tree → List ℕ
  loop_id (segment s) = []
  loop_id (loop l us) = l.id

-- the innermost loop of a node whose parent is at a place: a loop itself for a loop
abbrev pub innermost : Trees → (parent : Place) → Tree → List ℕ
innermost ts parent (segment s) = loop_id_at ts parent
innermost ts parent (loop l us) = l.id

abbrev pub Begins : Place → Place → Type 0
Begins [] q = Unit {0}
Begins (a ∷ pre) [] = ⊥
Begins (a ∷ pre) (b ∷ q) = (a ≡ b) × Begins pre q

-- some segment is placed at a place that begins so
abbrev pub Has : List (Option Place) → Place → Type 0
Has [] pre = ⊥
Has (None ∷ given) pre = Has given pre
Has (Some q ∷ given) pre = Begins pre q ⊎ Has given pre

-- the index is the first at which a place is given of which P holds
abbrev pub IsFirstAt : (Place → Type 0) → List (Option Place) → ℕ → Type 0
IsFirstAt P [] i = ⊥
IsFirstAt P (x ∷ given) zero = IsSomeAnd x P
IsFirstAt P (x ∷ given) (suc i) = IfSome x (λ q. P q → ⊥) × IsFirstAt P given i

-- no place is given of which P holds
abbrev pub IsNowhere : (Place → Type 0) → List (Option Place) → Type 0
IsNowhere P [] = Unit {0}
IsNowhere P (x ∷ given) = IfSome x (λ q. P q → ⊥) × IsNowhere P given

abbrev pub IsBefore : Pair → Pair → Type 0
IsBefore a b = (a.child < b.child) ⊎ ((a.child ≡ b.child) × (a.use_no < b.use_no))

-- the place is after child k of the parent: it is greater than the child's places, and isn't in the child
abbrev pub IsBehind : (parent : Place) → (k : ℕ) → Place → Type 0
IsBehind [] k [] = ⊥
IsBehind [] k (b ∷ q) = k < b.child
IsBehind (a ∷ parent) k [] = ⊥
IsBehind (a ∷ parent) k (b ∷ q) = IsBefore a b ⊎ ((a ≡ b) × IsBehind parent k q)

-- the position of the first segment that is placed after the child, or the end
abbrev pub IsReportedAt : (given : List (Option Place)) → (end : ℕ) → (parent : Place) → (k position : ℕ) → Type 0
IsReportedAt given end parent k position =
    ((i : ℕ) × (IsFirstAt (IsBehind parent k) given i) × (position ≡ i + 2))
    ⊎ (IsNowhere (IsBehind parent k) given × (position ≡ end))

-- what is wrong with a node
abbrev pub node_fault : Trees → (position : ℕ) → SegmentCode → (parent : Place) → Tree → Fault
node_fault ts position code parent node = record {
  position = position;
  id = first_id node;
  loop_id = innermost ts parent node;
  code = code;
  slot = node_number node;
  elem = None;
}

-- a use past the greatest: not used at all, or too often
abbrev pub past_code : Tree → SegmentCode
past_code (segment s) = if s.max == 0 then ik304.NotUsedPresent else ik304.SegmentTooOften
past_code (loop l ts) = if l.max == 0 then ik304.NotUsedPresent else ik304.LoopTooOften

-- some uses, but fewer than the least
abbrev pub few_code : Tree → SegmentCode
few_code (segment s) = ik304.SegmentTooSeldom
few_code (loop l ts) = ik304.LoopTooSeldom

-- Uses of a child are numbered from 0 without gaps, so that a use whose number is the maximum or more is past
-- it, and there are fewer uses than the minimum where the use before that number isn't there.

-- a use past a segment's or a loop's maximum, at its first segment
pub record IsPast (ts : Trees) (given : List (Option Place)) (f : Fault) : Type 0 where
  pub parent : Place
  pub child : ℕ
  pub use_no : ℕ
  pub node : Tree
  pub index : ℕ
  pub there : node_at ts (parent ++ use_of child use_no ∷ []) ≡ Some node
  pub past : max_of node ≤ use_no
  pub first : IsFirstAt (Begins (parent ++ use_of child use_no ∷ [])) given index
  pub is : f ≡ node_fault ts (index + 2) (past_code node) parent node

-- the whole guide, or a repetition of a loop that there is
abbrev pub IsThere : List (Option Place) → Place → Type 0
IsThere given [] = Unit {0}
IsThere given (a ∷ q) = Has given (a ∷ q)

-- in a repetition of the parent there isn't a use of a child that is needed, or there are some but too few
pub record IsShort (ts : Trees) (given : List (Option Place)) (end : ℕ) (f : Fault) : Type 0 where
  pub parent : Place
  pub child : ℕ
  pub node : Tree
  pub position : ℕ
  pub code : SegmentCode
  pub repetition : IsThere given parent
  pub there : node_at ts (parent ++ use_of child 0 ∷ []) ≡ Some node
  pub needed : 1 ≤ min_of node
  pub cases : (¬ Has given (parent ++ use_of child 0 ∷ []) × (code ≡ ik304.RequiredSegmentMissing))
      ⊎ (Has given (parent ++ use_of child 0 ∷ []) × ¬ Has given (parent ++ use_of child (min_of node - 1) ∷ []) × (code ≡ few_code node))
  pub reported : IsReportedAt given end parent child position
  pub is : f ≡ node_fault ts position code parent node

-- why a segment has no place: no slot has its id (and the dictionary has it, or hasn't), no slot with its id
-- picks it, or it is where none may be
abbrev pub stray_code : GuideTree → Segment → SegmentCode
stray_code g s =
    if any_slot (λ slot. bytes_eq slot.id (segment_id s)) g.nodes
    then (if any_slot (λ slot. fits slot s) g.nodes then ik304.OutOfSequence else ik304.UnexpectedSegment)
    else (if contains_text g.head.dictionary (segment_id s) then ik304.NotInSet else ik304.UnrecognizedSegment)

-- a segment that has no place
pub record IsStray (g : GuideTree) (body : List Segment) (given : List (Option Place)) (f : Fault) : Type 0 where
  pub index : ℕ
  pub segment : Segment
  pub there : slice_get body index ≡ Some segment
  pub unplaced : slice_get given index ≡ Some None
  pub is : f ≡ record { position = index + 2; id = segment_id segment; loop_id = []; code = stray_code g segment; slot = 0; elem = None }

-- the faults of a body under its placing; end is the position after the body
abbrev pub IsStructureFault : GuideTree → List Segment → List (Option Place) → (end : ℕ) → Fault → Type 0
IsStructureFault g body given end f = IsPast g.nodes given f ⊎ (IsShort g.nodes given end f ⊎ IsStray g body given f)
