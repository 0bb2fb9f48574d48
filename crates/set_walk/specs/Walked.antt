-- X12.6, order of segments, and the 999 guide, IK304 and IK4 (own): what a walk over a body has seen, and what it will have found
-- once it went over the segments that are still to come. Private.
use Rattle.std.specs.Prelude.{ℕ, ◌+◌, ◌<◌, ◌≡◌, ◌↔◌, ◌⊎◌, List, [], ◌∷◌, ◌++◌, map, length, Option, Some, None}
use Rattle.std.specs.List.{AllByRecursion, Contains, find}
use Rattle.std.specs.Prelude.{Bool, true, false, not, ◌&&◌, ◌||◌, nat_lt, is_some}
use Rattle.hub_kinds.specs.declared.fault.Fault.{Fault}
use Rattle.hub_kinds.specs.declared.fault.ElemFault.{ElemFault}
use Rattle.x12_segs.specs.Words.{SegValue, elements_of, kind_of}
use Rattle.x12_segs.specs.declared.kind.Kind.{Kind}
use Rattle.x12_segs.specs.declared.kind.Kind.TheVariants.{InterchangeTrailer, GroupHeader, GroupTrailer, SetHeader, SetTrailer}
use Rattle.x12_segs.specs.declared.kind.Kind.TheVariants.{Ta1, Other}
use Rattle.guide_tree.specs.declared.slot.Slot.{Slot}
use Rattle.guide_tree.specs.Words.{Trees, GuideTree, Place, Candidate, or_else, nexts, first_fit, pass, placing_from, placing_of}
use Rattle.guide_tree.specs.Words.{structure_faults}
use Rattle.elem_rules.specs.ElementFaults.{IsElementFault}
use Rattle.loop_match.specs.Given.{place_in}
use Rattle.loop_match.specs.LoopIds.{loop_id_of}
use Rattle.loop_match.specs.Steps.{place_view, last_of}
use Rattle.set_walk.specs.Told.{IsTold}
use Rattle.set_walk.specs.WalkedSet.{trailer_list}
use Rattle.set_walk.specs.Kept.{Slotted, IsKept}
use Rattle.set_walk.specs.declared.walk.Walk.{Walk}
use Rattle.set_walk.specs.declared.seen.Seen.{Seen}
use Rattle.set_walk.specs.declared.seen.TheConstants.{MOST_SEGMENTS}

-- no element of a segment has a fault by a slot
abbrev pub IsFaultless : SegValue → Slot → Type 0
IsFaultless seg slot = (e : ElemFault) → IsElementFault seg.delims (elements_of seg) slot e → ⊥

-- the kind of SE
abbrev pub is_end : Kind → Bool
is_end SetTrailer = true
is_end SetHeader = false
is_end GroupTrailer = false
is_end GroupHeader = false
is_end InterchangeTrailer = false
is_end Ta1 = false
is_end Other = false

abbrev pub is_trailer : SegValue → Bool
is_trailer seg = is_end (kind_of seg)

-- the place and the slot that a segment is given after the last place
abbrev pub next_for : Trees → (last : Option Place) → SegValue → Option Candidate
next_for ts last seg = first_fit (elements_of seg) (nexts ts last)

-- the last place after a segment that is given a place, or none
abbrev pub last_place_after : Option Candidate → (last : Option Place) → Option Place
last_place_after next last = or_else (place_in next) last

-- an element fault of a segment that is given a place; a stray has none
abbrev pub IsErrorAt : Trees → (at : ℕ) → SegValue → Option Candidate → Fault → Type 0
IsErrorAt ts at seg None f = ⊥
IsErrorAt ts at seg (Some c) f = IsTold at seg (loop_id_of ts c.place) c.slot f

-- an element fault of the segments from a position on
abbrev pub IsErrorFrom : Trees → (at : ℕ) → (last : Option Place) → List SegValue → Fault → Type 0
IsErrorFrom ts at last [] f = ⊥
IsErrorFrom ts at last (s ∷ rest) f =
    IsErrorAt ts at s (next_for ts last s) f ⊎ IsErrorFrom ts (at + 1) (last_place_after (next_for ts last s) last) rest f

abbrev pub slotted_at : SegValue → Option Candidate → List Slotted
slotted_at seg None = []
slotted_at seg (Some c) = (seg, c.slot) ∷ []

-- the segments that are given a place, with their slots
abbrev pub slotted_from : Trees → (last : Option Place) → List SegValue → List Slotted
slotted_from ts last [] = []
slotted_from ts last (s ∷ rest) = slotted_at s (next_for ts last s) ++ slotted_from ts (last_place_after (next_for ts last s) last) rest

abbrev pub last_in : Walk → Option Place
last_in w = last_of (place_view w.last.items)

-- the structural faults that were found, and those of the segments that are still to come
abbrev pub structure_behind : GuideTree → (end : ℕ) → Seen → List SegValue → List Fault
structure_behind g end s rest =
    s.structure ++ pass g end (s.walk.count + 2) (last_in s.walk) (map elements_of rest)
    (placing_from g.nodes (last_in s.walk) (map elements_of rest))

-- an element fault that was found, or one of the segments that are still to come
abbrev pub IsErrorBehind : Trees → Seen → List SegValue → Fault → Type 0
IsErrorBehind ts s rest f = Contains s.errors f ⊎ IsErrorFrom ts (s.walk.count + 2) (last_in s.walk) rest f

-- the placed segments of which some were kept, and those of the segments that are still to come, are these
pub record IsKeptBehind (ts : Trees) (s : Seen) (rest : List SegValue) (all : List Slotted) : Type 0 where
  pub taken : List Slotted
  pub kept : IsKept s.kept taken
  pub are : taken ++ slotted_from ts (last_in s.walk) rest ≡ all

-- the segment was taken: what will have been found is what would have been with it still to come
pub record HasTaken (g : GuideTree) (old new : Seen) (seg : SegValue) : Type 0 where
  pub structure : (end : ℕ) (rest : List SegValue) → structure_behind g end new rest ≡ structure_behind g end old (seg ∷ rest)
  pub errors : (rest : List SegValue) (f : Fault) → IsErrorBehind g.nodes new rest f ↔ IsErrorBehind g.nodes old (seg ∷ rest) f
  pub kept : (rest : List SegValue) (all : List Slotted) → IsKeptBehind g.nodes old (seg ∷ rest) all → IsKeptBehind g.nodes new rest all
  pub count : new.walk.count ≡ old.walk.count + 1
  pub room : AllByRecursion (λ s. s.use_no < new.walk.count) new.walk.last.items
  pub trailer : new.trailer ≡ old.trailer

-- SE wasn't seen before, and the segment is SE, or the body has room for it
abbrev pub goes_on : Seen → SegValue → Bool
goes_on s seg = not (is_some s.trailer) && (is_trailer seg || nat_lt s.walk.count MOST_SEGMENTS)

abbrev pub faults_of : GuideTree → (end : ℕ) → List SegValue → List Fault
faults_of g end body = structure_faults g end (map elements_of body) (placing_of g.nodes (map elements_of body))

-- these segments were seen after ST: a body, and SE if there is one; what will have been found is what the whole body has
pub record IsSeen (g : GuideTree) (s : Seen) (done : List SegValue) : Type 0 where
  pub body : List SegValue
  pub all : done ≡ body ++ trailer_list s.trailer
  pub trailer : s.trailer ≡ find is_trailer done
  pub count : s.walk.count ≡ length body
  pub few : s.walk.count < 4294967296
  pub room : AllByRecursion (λ a. a.use_no < s.walk.count) s.walk.last.items
  pub structure : (end : ℕ) (rest : List SegValue) → structure_behind g end s rest ≡ faults_of g end (body ++ rest)
  pub errors : (rest : List SegValue) (f : Fault) → IsErrorBehind g.nodes s rest f ↔ IsErrorFrom g.nodes 2 None (body ++ rest) f
  pub kept : (rest : List SegValue) → IsKeptBehind g.nodes s rest (slotted_from g.nodes None (body ++ rest))
