-- The definition's words of a parent's child are the layers' of its node.
use Rattle.std.proofs.Common.{◌≡◌, ℕ, ◌+◌, ◌-◌, ◌≤◌, ◌⊎◌, inl, inr, List, [], ◌∷◌, ◌++◌, Option, Some, sym, ap, ◌∙◌, subst}
use Rattle.hub_kinds.specs.declared.fault.Fault.{Fault}
use Rattle.hub_kinds.specs.declared.codes.SegmentCode.{SegmentCode}
use Rattle.hub_kinds.specs.declared.codes.SegmentCode.TheVariants as ik304
use Rattle.guide_tree.specs.Tree.{Tree, Trees}
use Rattle.guide_tree.specs.Tree as old_tree
use Rattle.guide_tree.specs.Places.{use_of}
use Rattle.guide_tree.specs.Structure.{Begins, Has, IsFirstAt, IsReportedAt, node_at, loop_id_at, IsThere, IsPast, IsShort}
use Rattle.guide_tree.specs.Structure as old_faults
use Rattle.night_definition.specs.Guides.{min_of}
use Rattle.night_definition.specs.Places.{Place}
use Rattle.night_definition.specs.Structure.{node_fault}
use Rattle.night_equal_set.specs.Placings.{place}
use Rattle.night_equal_structure.proofs.Given.{given}
use Rattle.night_equal_structure.proofs.Uses.{place_use}
use Rattle.night_equal_structure.proofs.Inner.{HasUse, PastAt, Few, ShortAt}
use Rattle.night_equal_structure.proofs.Nodes.{min_same, max_same, past_same, few_same, fault_same}

-- a parent's use of a child, in the words of the layers
abbrev HasIn : List (Option Place) → Place → (k u : ℕ) → Type 0
HasIn g pre k u = Has (given g) (place pre ++ use_of k u ∷ [])

has_in : (g : List (Option Place)) (pre : Place) (k u : ℕ) → HasUse g pre k u → HasIn g pre k u
has_in g pre k u h = subst (λ p. Has (given g) p) (place_use pre k u) h

in_has : (g : List (Option Place)) (pre : Place) (k u : ℕ) → HasIn g pre k u → HasUse g pre k u
in_has g pre k u h = subst (λ p. Has (given g) p) (sym (place_use pre k u)) h

-- too few uses, in the words of the layers
abbrev FewIn : List (Option Place) → (pre : Place) → Tree → (k : ℕ) → SegmentCode → Type 0
FewIn g pre t k code =
    (¬ HasIn g pre k 0 × (code ≡ ik304.RequiredSegmentMissing))
    ⊎ (HasIn g pre k 0 × ¬ HasIn g pre k (old_tree.min_of t - 1) × (code ≡ old_faults.few_code t))

few_in : (g : List (Option Place)) (pre : Place) (t : Tree) (k : ℕ) (code : SegmentCode) → Few g pre t k code → FewIn g pre t k code
few_in g pre t k code (inl x) = inl ((λ h. x.0 (in_has g pre k 0 h)), x.1)
few_in g pre t k code (inr x) = inr (
  has_in g pre k 0 x.0,
  (λ h. x.1 (subst (λ m. HasUse g pre k (m - 1)) (sym (min_same t)) (in_has g pre k (old_tree.min_of t - 1) h))),
  x.2 ∙ few_same t,
)

in_few : (g : List (Option Place)) (pre : Place) (t : Tree) (k : ℕ) (code : SegmentCode) → FewIn g pre t k code → Few g pre t k code
in_few g pre t k code (inl x) = inl ((λ h. x.0 (has_in g pre k 0 h)), x.1)
in_few g pre t k code (inr x) = inr (
  in_has g pre k 0 x.0,
  (λ h. x.1 (subst (λ m. HasIn g pre k (m - 1)) (min_same t) (has_in g pre k (min_of t - 1) h))),
  x.2 ∙ sym (few_same t),
)

pub past_is : (root : Trees) (g : List (Option Place)) (pre : Place) (t : Tree) (k : ℕ) (f : Fault)
    → ((u : ℕ) → node_at root (place pre ++ use_of k u ∷ []) ≡ Some t) → PastAt g pre (loop_id_at root (place pre)) t k f
    → IsPast root (given g) f
past_is root g pre t k f there h = record {
  parent = place pre;
  child = k;
  use_no = h.0;
  node = t;
  index = h.2;
  there = there h.0;
  past = subst (λ m. m ≤ h.0) (max_same t) h.1;
  first = subst (λ p. IsFirstAt (Begins p) (given g) h.2) (place_use pre k h.0) h.3;
  is = h.4 ∙ ap (λ c. node_fault (loop_id_at root (place pre)) t (h.2 + 2) c) (past_same t)
      ∙ fault_same root (place pre) t (h.2 + 2) (old_faults.past_code t);
}

pub short_is : (root : Trees) (g : List (Option Place)) (end : ℕ) (pre : Place) (t : Tree) (k : ℕ) (f : Fault)
    → IsThere (given g) (place pre) → node_at root (place pre ++ use_of k 0 ∷ []) ≡ Some t
    → ShortAt g end pre (loop_id_at root (place pre)) t k f → IsShort root (given g) end f
short_is root g end pre t k f repetition there h = record {
  parent = place pre;
  child = k;
  node = t;
  position = h.0;
  code = h.1;
  repetition = repetition;
  there = there;
  needed = subst (λ m. 1 ≤ m) (min_same t) h.2;
  cases = few_in g pre t k h.1 h.3;
  reported = h.4;
  is = h.5 ∙ fault_same root (place pre) t h.0 h.1;
}

pub is_past : (root : Trees) (g : List (Option Place)) (pre : Place) (f : Fault) (x : IsPast root (given g) f) → place pre ≡ x.parent
    → PastAt g pre (loop_id_at root (place pre)) x.node x.child f
is_past root g pre f x e = (
  x.use_no,
  subst (λ m. m ≤ x.use_no) (sym (max_same x.node)) x.past,
  x.index,
  subst (λ p. IsFirstAt (Begins p) (given g) x.index)
      (ap (λ p. p ++ use_of x.child x.use_no ∷ []) (sym e) ∙ sym (place_use pre x.child x.use_no)) x.first,
  x.is ∙ ap (λ p. old_faults.node_fault root (x.index + 2) (old_faults.past_code x.node) p x.node) (sym e)
      ∙ sym (fault_same root (place pre) x.node (x.index + 2) (old_faults.past_code x.node))
      ∙ ap (λ c. node_fault (loop_id_at root (place pre)) x.node (x.index + 2) c) (sym (past_same x.node)),
)

pub is_short : (root : Trees) (g : List (Option Place)) (end : ℕ) (pre : Place) (f : Fault) (x : IsShort root (given g) end f)
    → place pre ≡ x.parent → ShortAt g end pre (loop_id_at root (place pre)) x.node x.child f
is_short root g end pre f x e = (
  x.position,
  x.code,
  subst (λ m. 1 ≤ m) (sym (min_same x.node)) x.needed,
  in_few g pre x.node x.child x.code (subst (λ p.
      (¬ Has (given g) (p ++ use_of x.child 0 ∷ []) × (x.code ≡ ik304.RequiredSegmentMissing))
      ⊎ (Has (given g) (p ++ use_of x.child 0 ∷ []) × ¬ Has (given g) (p ++ use_of x.child (old_tree.min_of x.node - 1) ∷ [])
      × (x.code ≡ old_faults.few_code x.node))) (sym e) x.cases),
  subst (λ p. IsReportedAt (given g) end p x.child x.position) (sym e) x.reported,
  x.is ∙ ap (λ p. old_faults.node_fault root x.position x.code p x.node) (sym e)
      ∙ sym (fault_same root (place pre) x.node x.position x.code),
)
