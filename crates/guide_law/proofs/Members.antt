-- The pass meets exactly the structural faults of a placing.
use Rattle.std.proofs.Common.{◌≡◌, ℕ, zero, suc, ◌+◌, ◌-◌, ◌<◌, ◌≤◌, ◌⊎◌, inl, inr, List, [], ◌∷◌, Option, Some, None}
use Rattle.std.proofs.Common.{slice_get, refl, sym, ◌∙◌, ap, arith}
use Rattle.std.proofs.lemmas.Bool.{cases_lt}
use Rattle.hub_kinds.specs.declared.fault.Fault.{Fault}
use Rattle.hub_kinds.specs.declared.codes.SegmentCode.{SegmentCode}
use Rattle.hub_kinds.specs.declared.codes.SegmentCode.TheVariants as ik304
use Rattle.guide_tree.specs.Words.{Tree, Trees, GuideTree, min_of, Segment, IsPlaceOrBeginning, Place, IsPlacing, node_at, loop_id_at}
use Rattle.guide_tree.specs.Words.{IsBehind, few_code, step_faults, stray_fault, pass}
use Rattle.guide_tree.proofs.ForAbove.{In}
use Rattle.guide_law.proofs.Cases.{pick}
use Rattle.guide_law.proofs.Among.{in_left, in_right, in_cases}
use Rattle.guide_law.proofs.Residual.{AllTriggered}
use Rattle.guide_law.proofs.Rising.{last_place, one_use}
use Rattle.guide_law.proofs.Showing.{ShortBy, Shows, NoUse, FewUses}
use Rattle.guide_law.proofs.Arriving.{step_is, end_is}
use Rattle.guide_law.proofs.Remaining.{ShortFrom, Short, From, Goes, goes, Step, first_cases, moved}
use Rattle.guide_law.proofs.Remaining.{past_to, past_from, past_none, none_past, shown_past, short_to, short_from, shown_short}

-- a stray says nothing of the uses
short_none : (ts : Trees) (at end : ℕ) (last : Place) (given : List (Option Place)) (x : Fault)
    → ShortFrom ts at end last (None ∷ given) x → ShortFrom ts (at + 1) end last given x
short_none ts at end last given x r = record {
  parent = r.parent;
  child = r.child;
  node = r.node;
  code = r.code;
  position = r.position;
  repetition = r.repetition;
  there = r.there;
  needed = r.needed;
  before = r.before;
  cases = r.cases;
  told = pick r.told
      (λ t. pick (first_cases (IsBehind r.parent r.child) None given t.0 t.1) (λ y. absurd y.0)
      (λ y. let z = y.1 in let p : r.position ≡ t.0 + at = t.2 in inl (y.0, y.3, (omega arith))))
      (λ t. inr (t.0.1, t.1));
  is = r.is;
}

none_short : (ts : Trees) (at end : ℕ) (last : Place) (given : List (Option Place)) (x : Fault)
    → ShortFrom ts (at + 1) end last given x → ShortFrom ts at end last (None ∷ given) x
none_short ts at end last given x r = record {
  parent = r.parent;
  child = r.child;
  node = r.node;
  code = r.code;
  position = r.position;
  repetition = r.repetition;
  there = r.there;
  needed = r.needed;
  before = r.before;
  cases = r.cases;
  told = pick r.told (λ t. let p : r.position ≡ t.0 + (at + 1) = t.2 in inl (suc t.0, (tt, t.1), (omega arith)))
      (λ t. inr ((tt, t.0), t.1));
  is = r.is;
}

-- at the end
few_at_end : (last parent : Place) (child : ℕ) (node : Tree) (code : SegmentCode) → Short last [] parent child node code
    → (NoUse parent child last × (code ≡ ik304.RequiredSegmentMissing))
    ⊎ (FewUses parent child (min_of node) last × (code ≡ few_code node))
few_at_end last parent child node code (inl (none, e)) = inl ((λ u h. none (inl (u, (omega arith), h))), e)
few_at_end last parent child node code (inr (inr h, few, e)) = absurd h
few_at_end last parent child node code (inr (inl (u, l, h), few, e)) =
    inr ((u, h, pick (cases_lt (u + 1) (min_of node)) (λ m. m) (λ m. absurd (few (inl (u, (omega arith), h))))), e)

end_short : (ts : Trees) (at end : ℕ) (last : Place) (x : Fault) → ShortFrom ts at end last [] x
    → Shows (node_at ts) (loop_id_at ts) end (ShortBy last None) x
end_short ts at end last x r = record {
  parent = r.parent;
  child = r.child;
  node = r.node;
  code = r.code;
  there = r.there;
  holds = record {
    repetition = pick r.repetition (λ h. inl h) (λ h. absurd h);
    needed = r.needed;
    before = r.before;
    left = tt;
    cases = few_at_end last r.parent r.child r.node r.code r.cases;
  };
  is = moved r.position end (loop_id_at ts r.parent) r.code r.node x r.is (pick r.told (λ t. absurd t.1) (λ t. t.1));
}

cases_at_end : (last parent : Place) (child : ℕ) (node : Tree) (code : SegmentCode) → ShortBy last None parent child node code
    → Short last [] parent child node code
cases_at_end last parent child node code s =
    pick s.cases
    (λ y. inl ((λ h. pick h (λ w. y.0 w.0 w.2) (λ w. w)), y.1))
    (λ y. inr (
      inl (y.0.0, (omega arith), y.0.1),
      (λ h. pick h
          (λ w. let e = one_use parent child y.0.0 w.0 last y.0.1 w.2 in let l : y.0.0 + 1 < min_of node = y.0.2 in
          let m : min_of node - 1 ≤ w.0 = w.1 in omega arith)
          (λ w. w)),
      y.1,
    ))

short_end : (ts : Trees) (at end : ℕ) (last : Place) (x : Fault) → Shows (node_at ts) (loop_id_at ts) end (ShortBy last None) x
    → ShortFrom ts at end last [] x
short_end ts at end last x r = record {
  parent = r.parent;
  child = r.child;
  node = r.node;
  code = r.code;
  position = end;
  repetition = pick r.holds.repetition (λ h. inl h) (λ h. absurd h);
  there = r.there;
  needed = r.holds.needed;
  before = r.holds.before;
  cases = cases_at_end last r.parent r.child r.node r.code r.holds;
  told = inr (tt, refl);
  is = r.is;
}

-- a stray among the segments from a position on
pub record StrayFrom (g : GuideTree) (at : ℕ) (body : List Segment) (given : List (Option Place)) (x : Fault) : Type 0 where
  pub index : ℕ
  pub segment : Segment
  pub there : slice_get body index ≡ Some segment
  pub unplaced : slice_get given index ≡ Some None
  pub is : x ≡ stray_fault g (index + at) segment

abbrev pub Faults : GuideTree → (at end : ℕ) → (last : Option Place) → List Segment → List (Option Place) → Fault → Type 0
Faults g at end last body given x = StrayFrom g at body given x ⊎ From g.nodes at end (last_place last) given x

stray_moved : (g : GuideTree) (at at' : ℕ) (s : Segment) (x : Fault) → x ≡ stray_fault g at s → at ≡ at' → x ≡ stray_fault g at' s
stray_moved g at at' s x f e = f ∙ ap (λ (n : ℕ). stray_fault g n s) e

stray_later : (g : GuideTree) (at : ℕ) (s : Segment) (body : List Segment) (y : Option Place) (given : List (Option Place)) (x : Fault)
    → StrayFrom g (at + 1) body given x → StrayFrom g at (s ∷ body) (y ∷ given) x
stray_later g at s body y given x r = record {
  index = suc r.index;
  segment = r.segment;
  there = r.there;
  unplaced = r.unplaced;
  is = stray_moved g (r.index + (at + 1)) (suc r.index + at) r.segment x r.is (omega arith);
}

-- a stray at the front, or after it
stray_front : (g : GuideTree) (at : ℕ) (s : Segment) (body : List Segment) (y : Option Place) (given : List (Option Place)) (x : Fault)
    (i : ℕ) (t : Segment) → slice_get (s ∷ body) i ≡ Some t → slice_get (y ∷ given) i ≡ Some None → x ≡ stray_fault g (i + at) t
    → ((y ≡ None) × (x ≡ stray_fault g at s)) ⊎ StrayFrom g (at + 1) body given x
stray_front g at s body y given x zero t e f z =
    let same : t ≡ s = cc in
    inl (cc, stray_moved g (0 + at) at t x z (omega arith) ∙ ap (stray_fault g at) same)
stray_front g at s body y given x (suc i) t e f z = inr (record {
  index = i;
  segment = t;
  there = e;
  unplaced = f;
  is = stray_moved g (suc i + at) (i + (at + 1)) t x z (omega arith);
})

from_step : (ts : Trees) (at end : ℕ) (last q : Place) (given : List (Option Place)) (x : Fault) → Goes last q given
    → Step ts at last q x → From ts at end last (Some q ∷ given) x
from_step ts at end last q given x g r =
    pick r.holds
    (λ h. inr (shown_short ts at end last q given x r.parent r.child r.node r.code g r.there h r.is))
    (λ h. inl (shown_past ts at last q given x r.parent r.child r.node r.code r.there h r.is))

pub pass_faults : (g : GuideTree) (end at : ℕ) (last : Option Place) (body : List Segment) (given : List (Option Place)) (x : Fault)
    → AllTriggered g.nodes → IsPlaceOrBeginning g.nodes last → IsPlacing g.nodes last body given
    → In (pass g end at last body given) x → Faults g at end last body given x
pass_faults g end at last [] [] x t l pl h = inr (inr (short_end g.nodes at end (last_place last) x ((end_is g.nodes last end x l).0 h)))
pass_faults g end at last [] (y ∷ given) x t l pl h = absurd pl
pass_faults g end at last (s ∷ body) [] x t l pl h = absurd pl
pass_faults g end at last (s ∷ body) (None ∷ given) x t l pl (inl e) =
    inl (record { index = 0; segment = s; there = refl; unplaced = refl; is = stray_moved g at (0 + at) s x (sym e) (omega arith) })
pass_faults g end at last (s ∷ body) (None ∷ given) x t l pl (inr h) =
    pick (pass_faults g end (at + 1) last body given x t l pl.1 h)
    (λ r. inl (stray_later g at s body None given x r))
    (λ r. inr (pick r (λ y. inl (none_past g.nodes at (last_place last) given x y))
    (λ y. inr (none_short g.nodes at end (last_place last) given x y))))
pass_faults g end at last (s ∷ body) (Some q ∷ given) x t l pl h =
    let now = goes g.nodes last s body q given pl in
    pick (in_cases (step_faults at g.nodes last q) (pass g end (at + 1) (Some q) body given) x h)
    (λ y. inr (from_step g.nodes at end (last_place last) q given x now
    ((step_is g.nodes last q at x t pl.0 l (pl.1.0, pl.1.1)).0 y)))
    (λ y. pick (pass_faults g end (at + 1) (Some q) body given x t (pl.1.0, pl.1.1) pl.2 y)
    (λ r. inl (stray_later g at s body (Some q) given x r))
    (λ r. inr (pick r (λ z. inl (past_from g.nodes at (last_place last) q given x now z))
    (λ z. inr (short_from g.nodes at end (last_place last) q given x now z)))))

pub faults_pass : (g : GuideTree) (end at : ℕ) (last : Option Place) (body : List Segment) (given : List (Option Place)) (x : Fault)
    → AllTriggered g.nodes → IsPlaceOrBeginning g.nodes last → IsPlacing g.nodes last body given
    → Faults g at end last body given x → In (pass g end at last body given) x
faults_pass g end at last [] [] x t l pl (inl r) = let e = r.there in cc
faults_pass g end at last [] [] x t l pl (inr (inl r)) = absurd r.first
faults_pass g end at last [] [] x t l pl (inr (inr r)) = (end_is g.nodes last end x l).1 (end_short g.nodes at end (last_place last) x r)
faults_pass g end at last [] (y ∷ given) x t l pl r = absurd pl
faults_pass g end at last (s ∷ body) [] x t l pl r = absurd pl
faults_pass g end at last (s ∷ body) (None ∷ given) x t l pl (inl r) =
    pick (stray_front g at s body None given x r.index r.segment r.there r.unplaced r.is)
    (λ y. inl (sym y.1))
    (λ y. inr (faults_pass g end (at + 1) last body given x t l pl.1 (inl y)))
faults_pass g end at last (s ∷ body) (None ∷ given) x t l pl (inr (inl r)) =
    inr (faults_pass g end (at + 1) last body given x t l pl.1 (inr (inl (past_none g.nodes at (last_place last) given x r))))
faults_pass g end at last (s ∷ body) (None ∷ given) x t l pl (inr (inr r)) =
    inr (faults_pass g end (at + 1) last body given x t l pl.1 (inr (inr (short_none g.nodes at end (last_place last) given x r))))
faults_pass g end at last (s ∷ body) (Some q ∷ given) x t l pl (inl r) =
    pick (stray_front g at s body (Some q) given x r.index r.segment r.there r.unplaced r.is)
    (λ y. let e = y.0 in cc)
    (λ y. in_right (step_faults at g.nodes last q) (pass g end (at + 1) (Some q) body given) x
    (faults_pass g end (at + 1) (Some q) body given x t (pl.1.0, pl.1.1) pl.2 (inl y)))
faults_pass g end at last (s ∷ body) (Some q ∷ given) x t l pl (inr (inl r)) =
    pick (past_to g.nodes at (last_place last) q given x r)
    (λ y. in_left (step_faults at g.nodes last q) (pass g end (at + 1) (Some q) body given) x
    ((step_is g.nodes last q at x t pl.0 l (pl.1.0, pl.1.1)).1 y))
    (λ y. in_right (step_faults at g.nodes last q) (pass g end (at + 1) (Some q) body given) x
    (faults_pass g end (at + 1) (Some q) body given x t (pl.1.0, pl.1.1) pl.2 (inr (inl y))))
faults_pass g end at last (s ∷ body) (Some q ∷ given) x t l pl (inr (inr r)) =
    pick (short_to g.nodes at end (last_place last) q given x (goes g.nodes last s body q given pl) r)
    (λ y. in_left (step_faults at g.nodes last q) (pass g end (at + 1) (Some q) body given) x
    ((step_is g.nodes last q at x t pl.0 l (pl.1.0, pl.1.1)).1 y))
    (λ y. in_right (step_faults at g.nodes last q) (pass g end (at + 1) (Some q) body given) x
    (faults_pass g end (at + 1) (Some q) body given x t (pl.1.0, pl.1.1) pl.2 (inr (inr y))))
