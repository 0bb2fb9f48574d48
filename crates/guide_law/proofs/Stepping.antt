-- How what comes after a place goes on.
use Rattle.std.proofs.Common.{◌≡◌, IsTrue, ℕ, zero, suc, ◌+◌, ◌≤◌, inl, inr, List, [], ◌∷◌, ◌++◌, length, Some, refl}
use Rattle.std.proofs.Common.{sym, ◌∙◌, ap, subst, arith, append_assoc}
use Rattle.std.specs.List.{AllByRecursion}
use Rattle.guide_tree.specs.Words.{fits, Tree, Trees, segment, loop, no_trees, tree, min_of, max_of, Given, IsPart, Derives, joined}
use Rattle.guide_tree.specs.Words.{Place, slot_in, slot_nth}
use Rattle.guide_law.proofs.Residual.{Triggered, AllTriggered, AfterIn, After, MayBeEmpty, Closes, Ends, StepsIn}
use Rattle.guide_law.proofs.Residual.{Steps}
use Rattle.guide_law.proofs.Entering.{Starts, part_starts, Begins, derived_begins, tail_is}

-- parts that are empty together are none
no_parts : (t : Tree) (parts : List (List Given)) (rest : List Given) → Triggered t
    → AllByRecursion (IsPart t) parts → [] ≡ joined parts ++ rest
    → (length parts ≡ 0) × ([] ≡ rest)
no_parts t [] rest h all e = (refl, e)
no_parts t (part ∷ parts) rest h all e =
    let s = part_starts t part h all.0 in
    let k : [] ≡ s.first ∷ (s.later ++ joined parts) ++ rest =
    e ∙ ap (λ (l : List Given). (l ++ joined parts) ++ rest) s.is in
    cc

pub empty_derived : (ts : Trees) → AllTriggered ts → Derives ts [] → MayBeEmpty ts
empty_derived no_trees h d = tt
empty_derived (tree t ts) h (parts, rest, least, most, all, d, e) =
    let n = no_parts t parts rest h.0 all e in
    (omega arith, empty_derived ts h.1 (subst (λ (l : List Given). Derives ts l) (sym n.1) d))

-- inner ++ more is empty: so both are
both_empty : (xs ys : List Given) → [] ≡ xs ++ ys → ([] ≡ xs) × ([] ≡ ys)
both_empty [] ys e = (refl, e)
both_empty (x ∷ xs) ys e = cc

mutual
  pub nothing_after_in : (t : Tree) (q : Place) → Triggered t → AfterIn t q [] → Closes t q
  nothing_after_in (segment p) [] h e = tt
  nothing_after_in (segment p) (a ∷ q) h e = e
  nothing_after_in (loop l ts) [] h e = e
  nothing_after_in (loop l ts) (a ∷ q) h e = nothing_after ts a.child a.use_no q h.1 e

  pub nothing_after : (ts : Trees) (n r : ℕ) (q : Place) → AllTriggered ts → After ts n r q [] → Ends ts n r q
  nothing_after no_trees n r q h e = e
  nothing_after (tree t ts) (suc n) r q h e = nothing_after ts n r q h.1 e
  nothing_after (tree t ts) zero r q h (inner, parts, rest, least, most, in_it, all, d, e) =
      let b = both_empty inner (joined parts ++ rest) e in
      let k = no_parts t parts rest h.0 all b.1 in (
        nothing_after_in t q h.0 (subst (λ (l : List Given). AfterIn t q l) (sym b.0) in_it),
        omega arith,
        omega arith,
        empty_derived ts h.1 (subst (λ (l : List Given). Derives ts l) (sym k.1) d),
      )

pub record GoesIn (t : Tree) (q : Place) (x : Given) (xs : List Given) : Type 0 where
  pub place : Place
  pub steps : StepsIn t q place
  pub slot : slot_in t place ≡ Some x.1
  pub fit : IsTrue (fits x.1 x.0)
  pub after : AfterIn t place xs

pub record Goes (ts : Trees) (n r : ℕ) (q : Place) (x : Given) (xs : List Given) : Type 0 where
  pub child : ℕ
  pub use_no : ℕ
  pub place : Place
  pub steps : Steps ts n r q child use_no place
  pub slot : slot_nth ts child place ≡ Some x.1
  pub fit : IsTrue (fits x.1 x.0)
  pub after : After ts child use_no place xs

-- the next is in a later child
to_later : (t : Tree) (ts : Trees) (r : ℕ) (q : Place) (x : Given) (xs : List Given) → Closes t q → min_of t ≤ r + 1
    → r + 1 ≤ max_of t
    → Begins ts x xs → Goes (tree t ts) 0 r q x xs
to_later t ts r q x xs c least most b = record {
  child = suc b.child;
  use_no = 0;
  place = b.place;
  steps = (c, least, most, refl, b.enters);
  slot = b.slot;
  fit = b.fit;
  after = b.after;
}

-- the next begins the child anew
to_again : (t : Tree) (ts : Trees) (r : ℕ) (q : Place) (x : Given) (xs : List Given) (part : List Given)
    (parts : List (List Given)) (rest : List Given)
    → Closes t q → min_of t ≤ length parts + 1 + r + 1 → length parts + 1 + r + 1 ≤ max_of t
    → AllByRecursion (IsPart t) parts → Derives ts rest
    → Starts t part → x ∷ xs ≡ (part ++ joined parts) ++ rest → Goes (tree t ts) 0 r q x xs
to_again t ts r q x xs part parts rest c least most all d s e =
    let both : (x ≡ s.first) × (xs ≡ s.later ++ (joined parts ++ rest)) =
    tail_is x s.first xs (s.later ++ (joined parts ++ rest))
    (e ∙ append_assoc part (joined parts) rest ∙ ap (λ (l : List Given). l ++ (joined parts ++ rest)) s.is) in
    record {
      child = 0;
      use_no = r + 1;
      place = s.place;
      steps = inr (c, refl, omega arith, s.start);
      slot = s.slot ∙ ap (λ (g : Given). Some g.1) (sym both.0);
      fit = subst (λ (g : Given). IsTrue (fits g.1 g.0)) (sym both.0) s.fit;
      after = (s.later, parts, rest, omega arith, omega arith, s.after, all, d, both.1);
    }

-- the next is in the same use of the child
to_inside : (t : Tree) (ts : Trees) (r : ℕ) (q : Place) (x : Given) (xs : List Given) (y : Given) (ys : List Given)
    (parts : List (List Given)) (rest : List Given)
    → min_of t ≤ length parts + r + 1 → length parts + r + 1 ≤ max_of t → AllByRecursion (IsPart t) parts
    → Derives ts rest
    → GoesIn t q y ys → x ∷ xs ≡ y ∷ (ys ++ (joined parts ++ rest)) → Goes (tree t ts) 0 r q x xs
to_inside t ts r q x xs y ys parts rest least most all d g e =
    let both : (x ≡ y) × (xs ≡ ys ++ (joined parts ++ rest)) = tail_is x y xs (ys ++ (joined parts ++ rest)) e in
    record {
      child = 0;
      use_no = r;
      place = g.place;
      steps = inl (refl, g.steps);
      slot = g.slot ∙ ap (λ (z : Given). Some z.1) (sym both.0);
      fit = subst (λ (z : Given). IsTrue (fits z.1 z.0)) (sym both.0) g.fit;
      after = (ys, parts, rest, least, most, g.after, all, d, both.1);
    }

mutual
  pub after_goes_in : (t : Tree) (q : Place) (x : Given) (xs : List Given) → Triggered t → AfterIn t q (x ∷ xs)
      → GoesIn t q x xs
  after_goes_in (segment p) [] x xs h e = cc
  after_goes_in (segment p) (a ∷ q) x xs h e = absurd e
  after_goes_in (loop l ts) [] x xs h e = absurd e
  after_goes_in (loop l ts) (a ∷ q) x xs h e =
      let g = after_goes ts a.child a.use_no q x xs h.1 e in
      record {
        place = record { child = g.child; use_no = g.use_no } ∷ g.place;
        steps = g.steps;
        slot = g.slot;
        fit = g.fit;
        after = g.after;
      }

  pub after_goes : (ts : Trees) (n r : ℕ) (q : Place) (x : Given) (xs : List Given) → AllTriggered ts
      → After ts n r q (x ∷ xs) → Goes ts n r q x xs
  after_goes no_trees n r q x xs h e = absurd e
  after_goes (tree t ts) (suc n) r q x xs h e =
      let g = after_goes ts n r q x xs h.1 e in
      record {
        child = suc g.child;
        use_no = g.use_no;
        place = g.place;
        steps = g.steps;
        slot = g.slot;
        fit = g.fit;
        after = g.after;
      }
  after_goes (tree t ts) zero r q x xs h ([], [], rest, least, most, in_it, all, d, e) =
      to_later t ts r q x xs (nothing_after_in t q h.0 in_it) (omega arith) (omega arith)
      (derived_begins ts x xs h.1 (subst (λ (l : List Given). Derives ts l) (sym e) d))
  after_goes (tree t ts) zero r q x xs h ([], part ∷ parts, rest, least, most, in_it, all, d, e) =
      to_again t ts r q x xs part parts rest (nothing_after_in t q h.0 in_it) (omega arith) (omega arith) all.1 d
      (part_starts t part h.0 all.0) e
  after_goes (tree t ts) zero r q x xs h (y ∷ ys, parts, rest, least, most, in_it, all, d, e) =
      to_inside t ts r q x xs y ys parts rest least most all d (after_goes_in t q y ys h.0 in_it) e
