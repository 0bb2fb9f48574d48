-- The faults that remain after the beginning are the structural faults.
use Rattle.std.proofs.Common.{◌≡◌, ℕ, zero, suc, ◌+◌, ◌-◌, ◌⊎◌, inl, inr, List, [], ◌∷◌, Option, None, refl, sym, ◌∙◌}
use Rattle.hub_kinds.specs.declared.fault.Fault.{Fault}
use Rattle.hub_kinds.specs.declared.codes.SegmentCode.{SegmentCode}
use Rattle.guide_tree.specs.Words.{Tree, Trees, segment, loop, no_trees, tree, GuideTree, min_of, Segment, IsWellFormed, Place, node_in}
use Rattle.guide_tree.specs.Words.{node_nth, node_at, loop_id_at, node_fault, Begins, Has, IsBehind, past_code, IsThere, IsPast, IsShort}
use Rattle.guide_tree.specs.Words.{IsStructureFault, placing_of, fault_of, structure_faults}
use Rattle.guide_law.specs.Law.{MembersAreFaults}
use Rattle.guide_law.proofs.Cases.{pick}
use Rattle.guide_law.proofs.Among.{in_contains, contains_in}
use Rattle.guide_law.proofs.Computed.{is_placing}
use Rattle.guide_law.proofs.Gaps.{use_in}
use Rattle.guide_law.proofs.Placed.{triggers}
use Rattle.guide_law.proofs.Going.{begins_nothing}
use Rattle.guide_law.proofs.Remaining.{PastFrom, ShortFrom, HasUse}
use Rattle.guide_law.proofs.Members.{Faults, pass_faults, faults_pass}

-- a child is the same node in each of its uses
mutual
  use_in_same : (t : Tree) (w : Place) (k u v : ℕ) → node_in t (use_in w k u) ≡ node_in t (use_in w k v)
  use_in_same (segment s) [] k u v = refl
  use_in_same (segment s) (a ∷ w) k u v = refl
  use_in_same (loop l ts) [] k u v = refl
  use_in_same (loop l ts) (a ∷ w) k u v = use_nth_same ts a.child w k u v

  use_nth_same : (ts : Trees) (n : ℕ) (w : Place) (k u v : ℕ) → node_nth ts n (use_in w k u) ≡ node_nth ts n (use_in w k v)
  use_nth_same no_trees n w k u v = refl
  use_nth_same (tree t ts) zero w k u v = use_in_same t w k u v
  use_nth_same (tree t ts) (suc n) w k u v = use_nth_same ts n w k u v

use_same : (ts : Trees) (w : Place) (k u v : ℕ) → node_at ts (use_in w k u) ≡ node_at ts (use_in w k v)
use_same ts [] k u v = refl
use_same ts (a ∷ w) k u v = use_nth_same ts a.child w k u v

pub fault_is : (ts : Trees) (at : ℕ) (code : SegmentCode) (parent : Place) (node : Tree)
    → node_fault ts at code parent node ≡ fault_of at (loop_id_at ts parent) code node
fault_is ts at code parent (segment s) = refl
fault_is ts at code parent (loop l us) = refl

nothing_behind : (parent : Place) (k : ℕ) → IsBehind parent k [] → ⊥
nothing_behind [] k h = h
nothing_behind (a ∷ w) k h = h

past_from_all : (ts : Trees) (given : List (Option Place)) (x : Fault) → IsPast ts given x → PastFrom ts 2 [] given x
past_from_all ts given x r = record {
  parent = r.parent;
  child = r.child;
  use_no = r.use_no;
  node = r.node;
  index = r.index;
  there = use_same ts r.parent r.child 0 r.use_no ∙ r.there;
  past = r.past;
  new = begins_nothing r.parent r.child r.use_no;
  first = r.first;
  is = r.is ∙ fault_is ts (r.index + 2) (past_code r.node) r.parent r.node;
}

all_past : (ts : Trees) (given : List (Option Place)) (x : Fault) → PastFrom ts 2 [] given x → IsPast ts given x
all_past ts given x r = record {
  parent = r.parent;
  child = r.child;
  use_no = r.use_no;
  node = r.node;
  index = r.index;
  there = use_same ts r.parent r.child r.use_no 0 ∙ r.there;
  past = r.past;
  first = r.first;
  is = r.is ∙ sym (fault_is ts (r.index + 2) (past_code r.node) r.parent r.node);
}

-- at the beginning the uses are those of the places that are given
at_first : (given : List (Option Place)) (parent : Place) (k v : ℕ) → HasUse [] given parent k v → Has given (use_in parent k v)
at_first given parent k v h = pick h (λ w. absurd (begins_nothing parent k w.0 w.2)) (λ w. w)

there_from : (given : List (Option Place)) (parent : Place) → IsThere given parent → Begins parent [] ⊎ Has given parent
there_from given [] h = inl tt
there_from given (a ∷ w) h = inr h

from_there : (given : List (Option Place)) (parent : Place) → Begins parent [] ⊎ Has given parent → IsThere given parent
from_there given [] h = tt
from_there given (a ∷ w) h = pick h (λ b. absurd b) (λ g. g)

short_from_all : (ts : Trees) (given : List (Option Place)) (end : ℕ) (x : Fault) → IsShort ts given end x
    → ShortFrom ts 2 end [] given x
short_from_all ts given end x r = record {
  parent = r.parent;
  child = r.child;
  node = r.node;
  code = r.code;
  position = r.position;
  repetition = there_from given r.parent r.repetition;
  there = r.there;
  needed = r.needed;
  before = nothing_behind r.parent r.child;
  cases = pick r.cases (λ y. inl ((λ h. y.0 (at_first given r.parent r.child 0 h)), y.1))
      (λ y. inr (inr y.0, (λ h. y.1 (at_first given r.parent r.child (min_of r.node - 1) h)), y.2));
  told = r.reported;
  is = r.is ∙ fault_is ts r.position r.code r.parent r.node;
}

all_short : (ts : Trees) (given : List (Option Place)) (end : ℕ) (x : Fault) → ShortFrom ts 2 end [] given x
    → IsShort ts given end x
all_short ts given end x r = record {
  parent = r.parent;
  child = r.child;
  node = r.node;
  position = r.position;
  code = r.code;
  repetition = from_there given r.parent r.repetition;
  there = r.there;
  needed = r.needed;
  cases = pick r.cases (λ y. inl ((λ h. y.0 (inr h)), y.1))
      (λ y. inr (at_first given r.parent r.child 0 y.0, (λ h. y.1 (inr h)), y.2));
  reported = r.told;
  is = r.is ∙ sym (fault_is ts r.position r.code r.parent r.node);
}

from_all : (g : GuideTree) (body : List Segment) (given : List (Option Place)) (end : ℕ) (x : Fault)
    → IsStructureFault g body given end x → Faults g 2 end None body given x
from_all g body given end x (inl r) = inr (inl (past_from_all g.nodes given x r))
from_all g body given end x (inr (inl r)) = inr (inr (short_from_all g.nodes given end x r))
from_all g body given end x (inr (inr r)) =
    inl (record { index = r.index; segment = r.segment; there = r.there; unplaced = r.unplaced; is = r.is })

all_from : (g : GuideTree) (body : List Segment) (given : List (Option Place)) (end : ℕ) (x : Fault)
    → Faults g 2 end None body given x → IsStructureFault g body given end x
all_from g body given end x (inl r) =
    inr (inr (record { index = r.index; segment = r.segment; there = r.there; unplaced = r.unplaced; is = r.is }))
all_from g body given end x (inr (inl r)) = inl (all_past g.nodes given x r)
all_from g body given end x (inr (inr r)) = inr (inl (all_short g.nodes given end x r))

pub members : (g : GuideTree) → IsWellFormed g → MembersAreFaults g
members g w body end x =
    let t = triggers g w in let given = placing_of g.nodes body in let pl = is_placing g.nodes t body in (
      (λ h. all_from g body given end x
          (pass_faults g end 2 None body given x t tt pl (contains_in (structure_faults g end body given) x h))),
      (λ h. in_contains (structure_faults g end body given) x
          (faults_pass g end 2 None body given x t tt pl (from_all g body given end x h))),
    )
