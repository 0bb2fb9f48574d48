-- What shows at one step of a placing, or at its end: a child of a parent that is left with too few uses, or a use past the
-- greatest. Parents are seen from the nodes of one loop, or from the guide.
use Rattle.std.proofs.Common.{◌≡◌, ℕ, suc, ◌+◌, ◌<◌, ◌≤◌, ◌⊎◌, inl, inr, List, [], ◌∷◌, Option, Some, None}
use Rattle.std.proofs.Common.{refl, ◌∙◌, ap, subst, arith}
use Rattle.hub_kinds.specs.declared.fault.Fault.{Fault}
use Rattle.hub_kinds.specs.declared.codes.SegmentCode.{SegmentCode}
use Rattle.hub_kinds.specs.declared.codes.SegmentCode.TheVariants as ik304
use Rattle.guide_tree.specs.declared.node.Loop.{Loop}
use Rattle.guide_tree.specs.Words.{Tree, Trees, segment, loop, tree, min_of, max_of, Pair, Place, node_in, node_nth, Begins, IsBefore}
use Rattle.guide_tree.specs.Words.{IsBehind, past_code, few_code, fault_of}
use Rattle.guide_law.proofs.Cases.{pick}
use Rattle.guide_law.proofs.Gaps.{use_in}
use Rattle.guide_law.proofs.Rising.{before_self}

-- the next place begins so, or is after the child; at the end everything is left behind
abbrev pub NextBegins : Option Place → Place → Type 0
NextBegins None w = ⊥
NextBegins (Some q) w = Begins w q

abbrev pub NextBehind : Option Place → Place → ℕ → Type 0
NextBehind None w k = Unit {0}
NextBehind (Some q) w k = IsBehind w k q

-- the place is in no use of the child, or in one that is too early to be the last
abbrev pub NoUse : Place → ℕ → Place → Type 0
NoUse parent k last = (u : ℕ) → Begins (use_in parent k u) last → ⊥

abbrev pub FewUses : Place → ℕ → (least : ℕ) → Place → Type 0
FewUses parent k least last = (u : ℕ) × Begins (use_in parent k u) last × (u + 1 < least)

-- from the last place to the next one the child is left behind, in a repetition of its parent, with too few uses
pub record ShortBy (last : Place) (next : Option Place) (parent : Place) (child : ℕ) (node : Tree) (code : SegmentCode) : Type 0
  where
    pub repetition : Begins parent last ⊎ NextBegins next parent
    pub needed : 1 ≤ min_of node
    pub before : IsBehind parent child last → ⊥
    pub left : NextBehind next parent child
    pub cases : (NoUse parent child last × (code ≡ ik304.RequiredSegmentMissing))
        ⊎ (FewUses parent child (min_of node) last × (code ≡ few_code node))

-- from the last place to the next one a use begins that is past the greatest
pub record PastBy (last next parent : Place) (child : ℕ) (node : Tree) (code : SegmentCode) : Type 0 where
  pub use_no : ℕ
  pub past : max_of node ≤ use_no
  pub new : Begins (use_in parent child use_no) last → ⊥
  pub begun : Begins (use_in parent child use_no) next
  pub is : code ≡ past_code node

abbrev pub StepBy : (last next parent : Place) → (child : ℕ) → Tree → SegmentCode → Type 0
StepBy last next parent child node code = ShortBy last (Some next) parent child node code ⊎ PastBy last next parent child node code

-- the fault of a child of which P holds, where nodes and loops' ids are given by places
pub record Shows (nodes : Place → Option Tree) (ids : Place → List ℕ) (at : ℕ)
    (P : Place → ℕ → Tree → SegmentCode → Type 0) (x : Fault) : Type 0 where
  pub parent : Place
  pub child : ℕ
  pub node : Tree
  pub code : SegmentCode
  pub there : nodes (use_in parent child 0) ≡ Some node
  pub holds : P parent child node code
  pub is : x ≡ fault_of at (ids parent) code node

abbrev pub Named : (Place → Option Tree) → (Place → List ℕ) → Type 0
Named nodes ids = (q : Place) (l : Loop) (ts : Trees) → nodes q ≡ Some (loop l ts) → ids q ≡ l.id

-- the nodes of a list are the children from number k on, and o is the id of the loop round them
pub record Level (nodes : Place → Option Tree) (ids : Place → List ℕ) (o : List ℕ) (k : ℕ) (us : Trees) : Type 0 where
  pub stands : (a : Pair) (n : ℕ) (q : Place) → a.child ≡ k + n → nodes (a ∷ q) ≡ node_nth us n q
  pub named : Named nodes ids
  pub outer : ids [] ≡ o

-- the same of one node
pub record LevelIn (nodes : Place → Option Tree) (ids : Place → List ℕ) (t : Tree) : Type 0 where
  pub stands : (q : Place) → nodes q ≡ node_in t q
  pub named : Named nodes ids

abbrev pub nodes_in : (Place → Option Tree) → Pair → Place → Option Tree
nodes_in nodes a q = nodes (a ∷ q)

abbrev pub ids_in : (Place → List ℕ) → Pair → Place → List ℕ
ids_in ids a q = ids (a ∷ q)

pub level_next : (nodes : Place → Option Tree) (ids : Place → List ℕ) (o : List ℕ) (k : ℕ) (t : Tree) (us : Trees)
    → Level nodes ids o k (tree t us) → Level nodes ids o (k + 1) us
level_next nodes ids o k t us v = record {
  stands = λ a n q e. v.stands a (suc n) q (omega arith);
  named = v.named;
  outer = v.outer;
}

pub level_child : (nodes : Place → Option Tree) (ids : Place → List ℕ) (o : List ℕ) (k : ℕ) (a : Pair) (t : Tree) (us : Trees)
    → Level nodes ids o k (tree t us) → a.child ≡ k → LevelIn (nodes_in nodes a) (ids_in ids a) t
level_child nodes ids o k a t us v e = record {
  stands = λ q. v.stands a 0 q (omega arith);
  named = λ q l ts f. v.named (a ∷ q) l ts f;
}

pub level_loop : (nodes : Place → Option Tree) (ids : Place → List ℕ) (l : Loop) (ts : Trees)
    → LevelIn nodes ids (loop l ts) → Level nodes ids l.id 0 ts
level_loop nodes ids l ts v = record {
  stands = λ a n q e. v.stands (a ∷ q) ∙ (let f : a.child ≡ n = omega arith in ap (λ (m : ℕ). node_nth ts m q) f);
  named = v.named;
  outer = v.named [] l ts (v.stands []);
}

pub node_self : (t : Tree) → node_in t [] ≡ Some t
node_self (segment s) = refl
node_self (loop l ts) = refl

pub node_same : (t node : Tree) → node_in t [] ≡ Some node → t ≡ node
node_same (segment s) node e = cc
node_same (loop l ts) node e = cc

-- how the next place looks from inside the pair that both begin with, or that only the last begins with
pub record Inner (a : Pair) (next inside : Option Place) : Type 0 where
  pub begins : (w : Place) → (NextBegins next (a ∷ w) → NextBegins inside w) × (NextBegins inside w → NextBegins next (a ∷ w))
  pub behind : (w : Place) (k : ℕ)
      → (NextBehind next (a ∷ w) k → NextBehind inside w k) × (NextBehind inside w k → NextBehind next (a ∷ w) k)

pub inner_end : (a : Pair) → Inner a None None
inner_end a = record { begins = λ w. ((λ h. h), (λ h. h)); behind = λ w k. ((λ h. h), (λ h. h)) }

pub inner_same : (a : Pair) (q : Place) → Inner a (Some (a ∷ q)) (Some q)
inner_same a q = record {
  begins = λ w. ((λ h. h.1), (λ h. (refl, h)));
  behind = λ w k. ((λ h. pick h (λ l. absurd (before_self a l)) (λ y. y.1)), (λ h. inr (refl, h)));
}

pub inner_before : (a b : Pair) (q : Place) → IsBefore a b → Inner a (Some (b ∷ q)) None
inner_before a b q l = record {
  begins = λ w. ((λ h. before_self b (subst (λ (x : Pair). IsBefore x b) h.0 l)), (λ h. absurd h));
  behind = λ w k. ((λ h. tt), (λ h. inl l));
}

short_up : (a : Pair) (p : Place) (next inside : Option Place) (w : Place) (k : ℕ) (node : Tree) (code : SegmentCode)
    → Inner a next inside → ShortBy p inside w k node code → ShortBy (a ∷ p) next (a ∷ w) k node code
short_up a p next inside w k node code v s = record {
  repetition = pick s.repetition (λ b. inl (refl, b)) (λ n. inr ((v.begins w).1 n));
  needed = s.needed;
  before = λ h. pick h (before_self a) (λ y. s.before y.1);
  left = (v.behind w k).1 s.left;
  cases = pick s.cases (λ y. inl ((λ u b. y.0 u b.1), y.1)) (λ y. inr ((y.0.0, (refl, y.0.1), y.0.2), y.1));
}

pub short_down : (a : Pair) (p : Place) (next inside : Option Place) (w : Place) (k : ℕ) (node : Tree) (code : SegmentCode)
    → Inner a next inside → ShortBy (a ∷ p) next (a ∷ w) k node code → ShortBy p inside w k node code
short_down a p next inside w k node code v s = record {
  repetition = pick s.repetition (λ b. inl b.1) (λ n. inr ((v.begins w).0 n));
  needed = s.needed;
  before = λ h. s.before (inr (refl, h));
  left = (v.behind w k).0 s.left;
  cases = pick s.cases (λ y. inl ((λ u b. y.0 u (refl, b)), y.1)) (λ y. inr ((y.0.0, y.0.1.1, y.0.2), y.1));
}

past_up : (a : Pair) (p q w : Place) (k : ℕ) (node : Tree) (code : SegmentCode) → PastBy p q w k node code
    → PastBy (a ∷ p) (a ∷ q) (a ∷ w) k node code
past_up a p q w k node code s =
    record { use_no = s.use_no; past = s.past; new = λ h. s.new h.1; begun = (refl, s.begun); is = s.is }

pub past_down : (a : Pair) (p q w : Place) (k : ℕ) (node : Tree) (code : SegmentCode)
    → PastBy (a ∷ p) (a ∷ q) (a ∷ w) k node code → PastBy p q w k node code
past_down a p q w k node code s =
    record { use_no = s.use_no; past = s.past; new = λ h. s.new (refl, h); begun = s.begun.1; is = s.is }

pub shorts_up : (a : Pair) (p : Place) (next inside : Option Place) (nodes : Place → Option Tree) (ids : Place → List ℕ) (at : ℕ)
    (x : Fault) → Inner a next inside → Shows (nodes_in nodes a) (ids_in ids a) at (ShortBy p inside) x
    → Shows nodes ids at (ShortBy (a ∷ p) next) x
shorts_up a p next inside nodes ids at x v s = record {
  parent = a ∷ s.parent;
  child = s.child;
  node = s.node;
  code = s.code;
  there = s.there;
  holds = short_up a p next inside s.parent s.child s.node s.code v s.holds;
  is = s.is;
}

pub steps_up : (a : Pair) (p q : Place) (nodes : Place → Option Tree) (ids : Place → List ℕ) (at : ℕ) (x : Fault)
    → Shows (nodes_in nodes a) (ids_in ids a) at (StepBy p q) x → Shows nodes ids at (StepBy (a ∷ p) (a ∷ q)) x
steps_up a p q nodes ids at x s = record {
  parent = a ∷ s.parent;
  child = s.child;
  node = s.node;
  code = s.code;
  there = s.there;
  holds = pick s.holds
      (λ h. inl (short_up a p (Some (a ∷ q)) (Some q) s.parent s.child s.node s.code (inner_same a q) h))
      (λ h. inr (past_up a p q s.parent s.child s.node s.code h));
  is = s.is;
}

-- what shows with a next place whatever else shows
pub as_step : (last next : Place) (nodes : Place → Option Tree) (ids : Place → List ℕ) (at : ℕ) (x : Fault)
    → Shows nodes ids at (ShortBy last (Some next)) x → Shows nodes ids at (StepBy last next) x
as_step last next nodes ids at x s = record {
  parent = s.parent;
  child = s.child;
  node = s.node;
  code = s.code;
  there = s.there;
  holds = inl s.holds;
  is = s.is;
}
