-- Where each step of a placing misses nothing and goes past no maximum, the pass meets no fault.
use Rattle.std.proofs.Common.{◌≡◌, ℕ, zero, suc, ◌+◌, ◌==◌, nat_lt, nat_le, ◌≤◌, inl, inr}
use Rattle.std.proofs.Common.{List, [], ◌∷◌, ◌++◌}
use Rattle.std.proofs.Common.{map, length, Option, Some, None, refl, ap, ◌∙◌, subst, arith}
use Rattle.std.proofs.lemmas.Bool.{cond-false, cond-true}
use Rattle.std.proofs.lemmas.Bool.Decides.{nat_tests}
use Rattle.hub_kinds.specs.declared.fault.Fault.{Fault}
use Rattle.hub_kinds.specs.declared.codes.SegmentCode.TheVariants as ik304
use Rattle.guide_tree.specs.Words.{Tree, Trees, segment, loop, no_trees, tree, GuideTree, min_of, max_of, Segment, past_code, few_code}
use Rattle.guide_tree.specs.Words.{Place, use_of, IsPlacing, Given, Derives, IsWellFormed, placing_of, fault_of, missing, too_few, past}
use Rattle.guide_tree.specs.Words.{unused, entered, ended_in, ended, stepped_in, stepped, pass, structure_faults}
use Rattle.guide_law.proofs.Residual.{MayBeEmpty, Enters, Closes, Ends, StepsIn, Steps, IsMetFrom, IsMet}
use Rattle.guide_law.proofs.Placed.{triggers, no_rivals}
use Rattle.guide_law.proofs.Meeting.{derived_placed}
use Rattle.guide_law.proofs.Computed.{is_placing}

none_both : (xs ys : List Fault) → xs ≡ [] → ys ≡ [] → xs ++ ys ≡ []
none_both xs ys e f = ap (λ (l : List Fault). l ++ ys) e ∙ f

none_missing : (at : ℕ) (o : List ℕ) (t : Tree) → min_of t ≡ 0 → missing at o t ≡ []
none_missing at o t h =
    cond-false (nat_le 1 (min_of t)) (fault_of at o ik304.RequiredSegmentMissing t ∷ []) [] (let m = min_of t in grind (arith, nat_tests))

none_few : (at : ℕ) (o : List ℕ) (n : ℕ) (t : Tree) → min_of t ≤ n → too_few at o n t ≡ []
none_few at o n t h = cond-false (nat_lt n (min_of t)) (fault_of at o (few_code t) t ∷ []) [] (grind (arith, nat_tests))

none_past : (at : ℕ) (o : List ℕ) (u : ℕ) (t : Tree) → u + 1 ≤ max_of t → past at o u t ≡ []
none_past at o u t h = cond-false (nat_le (max_of t) u) (fault_of at o (past_code t) t ∷ []) [] (grind (arith, nat_tests))

empty_none : (at : ℕ) (o : List ℕ) (ts : Trees) → MayBeEmpty ts → unused at o ts ≡ []
empty_none at o no_trees h = refl
empty_none at o (tree t ts) h =
    none_both (missing at o t) (unused at o ts) (none_missing at o t h.0) (empty_none at o ts h.1)

enters_none : (at : ℕ) (o : List ℕ) (ts : Trees) (m u : ℕ) (w : Place) → u ≡ 0 → Enters ts m w → entered at o ts m u ≡ []
enters_none at o no_trees m u w z h = absurd h
enters_none at o (tree t ts) zero u w z h = none_past at o u t (let l = h.0 in omega arith)
enters_none at o (tree t ts) (suc m) u w z h =
    none_both (missing at o t) (entered at o ts m u) (none_missing at o t h.0) (enters_none at o ts m u w z h.1)

mutual
  closes_none : (at : ℕ) (t : Tree) (p : Place) → Closes t p → ended_in at t p ≡ []
  closes_none at (segment s) p h = refl
  closes_none at (loop l ts) [] h = absurd h
  closes_none at (loop l ts) (a ∷ p) h = ends_none at l.id ts a.child a.use_no p h

  ends_none : (at : ℕ) (o : List ℕ) (ts : Trees) (n r : ℕ) (p : Place) → Ends ts n r p → ended at o ts n r p ≡ []
  ends_none at o no_trees n r p h = absurd h
  ends_none at o (tree t ts) (suc n) r p h = ends_none at o ts n r p h
  ends_none at o (tree t ts) zero r p h =
      none_both (ended_in at t p) (too_few at o (r + 1) t ++ unused at o ts) (closes_none at t p h.0)
      (none_both (too_few at o (r + 1) t) (unused at o ts) (none_few at o (r + 1) t h.1) (empty_none at o ts h.3))

mutual
  steps_in_none : (at : ℕ) (t : Tree) (p w : Place) → StepsIn t p w → stepped_in at t p w ≡ []
  steps_in_none at (segment s) p w h = absurd h
  steps_in_none at (loop l ts) [] w h = absurd h
  steps_in_none at (loop l ts) (a ∷ p) [] h = absurd h
  steps_in_none at (loop l ts) (a ∷ p) (b ∷ w) h =
      steps_none at l.id ts a.child b.child a.use_no b.use_no p w h

  steps_none : (at : ℕ) (o : List ℕ) (ts : Trees) (n m r u : ℕ) (p w : Place) → Steps ts n r p m u w
      → stepped at o ts n m r u p w ≡ []
  steps_none at o no_trees n m r u p w h = absurd h
  steps_none at o (tree t ts) (suc n) zero r u p w h = absurd h
  steps_none at o (tree t ts) (suc n) (suc m) r u p w h = steps_none at o ts n m r u p w h
  steps_none at o (tree t ts) zero zero r u p w (inl (z, h)) =
      cond-true (r == u) (stepped_in at t p w) (ended_in at t p ++ past at o u t) (grind (arith, nat_tests))
      ∙ steps_in_none at t p w h
  steps_none at o (tree t ts) zero zero r u p w (inr (c, z, top, s)) =
      cond-false (r == u) (stepped_in at t p w) (ended_in at t p ++ past at o u t) (grind (arith, nat_tests))
      ∙ none_both (ended_in at t p) (past at o u t) (closes_none at t p c) (none_past at o u t top)
  steps_none at o (tree t ts) zero (suc m) r u p w (c, least, most, z, e) =
      none_both (ended_in at t p) (too_few at o (r + 1) t ++ entered at o ts m u) (closes_none at t p c)
      (none_both (too_few at o (r + 1) t) (entered at o ts m u) (none_few at o (r + 1) t least) (enters_none at o ts m u w z e))

met_from_none : (g : GuideTree) (end at n r : ℕ) (q : Place) (body : List Segment) (places : List Place)
    → length body ≡ length places → IsMetFrom g.nodes n r q places
    → pass g end at (Some (use_of n r ∷ q)) body (map Some places) ≡ []
met_from_none g end at n r q [] [] l h = ends_none end [] g.nodes n r q h
met_from_none g end at n r q [] (p ∷ places) l h = absurd (omega arith)
met_from_none g end at n r q (s ∷ body) [] l h = absurd (omega arith)
met_from_none g end at n r q (s ∷ body) ([] ∷ places) l h = absurd h
met_from_none g end at n r q (s ∷ body) ((b ∷ w) ∷ places) l h =
    none_both (stepped at [] g.nodes n b.child r b.use_no q w) (pass g end (at + 1) (Some (b ∷ w)) body (map Some places))
    (steps_none at [] g.nodes n b.child r b.use_no q w h.0)
    (met_from_none g end (at + 1) b.child b.use_no w body places (omega arith) h.1)

-- what is met all along has no fault
pub met_none : (g : GuideTree) (end : ℕ) (body : List Segment) (places : List Place) → length body ≡ length places
    → IsMet g.nodes places → structure_faults g end body (map Some places) ≡ []
met_none g end [] [] l h = empty_none end [] g.nodes h
met_none g end [] (p ∷ places) l h = absurd (omega arith)
met_none g end (s ∷ body) [] l h = absurd (omega arith)
met_none g end (s ∷ body) ([] ∷ places) l h = absurd h
met_none g end (s ∷ body) ((b ∷ w) ∷ places) l h =
    none_both (entered 2 [] g.nodes b.child b.use_no) (pass g end 3 (Some (b ∷ w)) body (map Some places))
    (enters_none 2 [] g.nodes b.child b.use_no w h.0 h.1)
    (met_from_none g end 3 b.child b.use_no w body places (omega arith) h.2)

as_many : (ts : Trees) (last : Option Place) (body : List Segment) (places : List Place)
    → IsPlacing ts last body (map Some places) → length body ≡ length places
as_many ts last [] [] h = refl
as_many ts last [] (p ∷ places) h = absurd h
as_many ts last (s ∷ body) [] h = absurd h
as_many ts last (s ∷ body) (p ∷ places) h = let e = as_many ts (Some p) body places h.2 in omega arith

pub derived_clean : (g : GuideTree) → IsWellFormed g → (xs : List Given) (end : ℕ) → Derives g.nodes xs
    → structure_faults g end (map (λ x. x.0) xs) (placing_of g.nodes (map (λ x. x.0) xs)) ≡ []
derived_clean g w xs end d =
    let body = map (λ (x : Given). x.0) xs in
    let h = triggers g w in
    let pl = is_placing g.nodes h body in
    let r = derived_placed g.nodes xs (placing_of g.nodes body) h (no_rivals g w) d pl in
    ap (structure_faults g end body) r.is
    ∙ met_none g end body r.places
    (as_many g.nodes None body r.places (subst (λ (l : List (Option Place)). IsPlacing g.nodes None body l) r.is pl)) r.met
