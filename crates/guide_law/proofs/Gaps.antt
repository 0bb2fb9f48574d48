-- Uses of a child come without gaps.
use Rattle.std.proofs.Common.{◌≡◌, ℕ, zero, suc, ◌+◌, ◌≤◌, ◌⊎◌, inl, inr, List, [], ◌∷◌, ◌++◌, Option}
use Rattle.std.proofs.Common.{Some, None, Bool, true, false, sym, ap, ◌∙◌, subst, arith}
use Rattle.std.proofs.lemmas.Bool.{cases_lt}
use Rattle.std.specs.List.{AllByRecursion}
use Rattle.guide_tree.specs.Words.{Trees, Segment, Pair, Place, use_of, IsFirst, IsNext, Follows, IsPlacing, Begins, Has}
use Rattle.guide_law.proofs.Cases.{pick}
use Rattle.guide_tree.proofs.ForAbove.{pair_is}

-- a use of a child in a repetition of its parent
abbrev pub use_in : Place → ℕ → ℕ → Place
use_in pre k u = pre ++ use_of k u ∷ []

firsts_begin : (pre q : Place) (k u : ℕ) → AllByRecursion IsFirst q → Begins (use_in pre k (u + 1)) q → ⊥
firsts_begin [] [] k u f b = b
firsts_begin [] (a ∷ q) k u f b = let e = ap (λ (x : Pair). x.use_no) b.0 in let z : a.use_no ≡ 0 = f.0.1 in omega arith
firsts_begin (c ∷ pre) [] k u f b = b
firsts_begin (c ∷ pre) (a ∷ q) k u f b = firsts_begin pre q k u f.1 b.1

next_use : (in_loop : Bool) (a b : Pair) (k u : ℕ) → IsNext in_loop a b → use_of k (u + 1) ≡ b → use_of k u ≡ a
next_use in_loop a b k u n e = pick n
    (λ x. absurd (let v = ap (λ (x : Pair). x.use_no) e in let z : b.use_no ≡ 0 = x.1 in omega arith))
    (λ x. let v = ap (λ (x : Pair). x.use_no) e in let c = ap (λ (x : Pair). x.child) e in let s : b.child ≡ a.child =
    x.0 in let t : b.use_no ≡ a.use_no + 1 = x.1 in
    pair_is (use_of k u) a (omega arith) (omega arith))

-- a place in a later use follows one in that use, or in the one before
pub came_from : (in_loop : Bool) (p q pre : Place) (k u : ℕ) → Follows in_loop p q → Begins (use_in pre k (u + 1)) q
    → Begins (use_in pre k (u + 1)) p ⊎ Begins (use_in pre k u) p
came_from in_loop [] q pre k u f b = absurd f
came_from in_loop (a ∷ p) [] pre k u f b = absurd f
came_from in_loop (a ∷ p) (c ∷ q) [] k u (inl (e, f)) b = inl (b.0 ∙ sym e, tt)
came_from in_loop (a ∷ p) (c ∷ q) [] k u (inr (n, z)) b = inr (next_use in_loop a c k u n b.0, tt)
came_from in_loop (a ∷ p) (c ∷ q) (d ∷ pre) k u (inl (e, f)) b =
    pick (came_from true p q pre k u f b.1) (λ x. inl (b.0 ∙ sym e, x)) (λ x. inr (b.0 ∙ sym e, x))
came_from in_loop (a ∷ p) (c ∷ q) (d ∷ pre) k u (inr (n, z)) b = absurd (firsts_begin pre q k u z b.1)

begun_before : (ts : Trees) (p : Place) (body : List Segment) (given : List (Option Place)) (pre : Place) (k u : ℕ)
    → IsPlacing ts (Some p) body given → Has given (use_in pre k (u + 1))
    → Begins (use_in pre k (u + 1)) p ⊎ (Begins (use_in pre k u) p ⊎ Has given (use_in pre k u))
begun_before ts p body [] pre k u pl h = absurd h
begun_before ts p [] (x ∷ given) pre k u pl h = absurd pl
begun_before ts p (s ∷ body) (None ∷ given) pre k u pl h = begun_before ts p body given pre k u pl.1 h
begun_before ts p (s ∷ body) (Some q ∷ given) pre k u pl (inl b) =
    pick (came_from false p q pre k u pl.0 b) (λ x. inl x) (λ x. inr (inl x))
begun_before ts p (s ∷ body) (Some q ∷ given) pre k u pl (inr h) =
    pick (begun_before ts q body given pre k u pl.2 h)
    (λ b. pick (came_from false p q pre k u pl.0 b) (λ x. inl x) (λ x. inr (inl x)))
    (λ y. pick y (λ x. inr (inr (inl x))) (λ x. inr (inr (inr x))))

pub first_begins : (q pre : Place) (k u : ℕ) (ts : Trees) (s : Segment) (body : List Segment)
    (given : List (Option Place)) → IsPlacing ts None (s ∷ body) (Some q ∷ given)
    → Begins (use_in pre k (u + 1)) q → ⊥
first_begins [] pre k u ts s body given pl b = pl.0
first_begins (a ∷ q) [] k u ts s body given pl b = let e = ap (λ (x : Pair). x.use_no) b.0 in let z : a.use_no ≡ 0 =
    pl.0.0 in omega arith
first_begins (a ∷ q) (c ∷ pre) k u ts s body given pl b = firsts_begin pre q k u pl.0.1 b.1

use_before : (ts : Trees) (body : List Segment) (given : List (Option Place)) (pre : Place) (k u : ℕ)
    → IsPlacing ts None body given → Has given (use_in pre k (u + 1)) → Has given (use_in pre k u)
use_before ts body [] pre k u pl h = absurd h
use_before ts [] (x ∷ given) pre k u pl h = absurd pl
use_before ts (s ∷ body) (None ∷ given) pre k u pl h = use_before ts body given pre k u pl.1 h
use_before ts (s ∷ body) (Some q ∷ given) pre k u pl (inl b) =
    absurd (first_begins q pre k u ts s body given pl b)
use_before ts (s ∷ body) (Some q ∷ given) pre k u pl (inr h) =
    pick (begun_before ts q body given pre k u pl.2 h)
    (λ b. absurd (first_begins q pre k u ts s body given pl b))
    (λ y. pick y (λ x. inl x) (λ x. inr x))

-- where there is a use, there is each one before it
pub no_gaps : (ts : Trees) (body : List Segment) (given : List (Option Place)) (pre : Place) (k u v : ℕ)
    → IsPlacing ts None body given → v ≤ u → Has given (use_in pre k u) → Has given (use_in pre k v)
no_gaps ts body given pre k zero v pl l h = let e : 0 ≡ v = omega arith in
    subst (λ (x : ℕ). Has given (use_in pre k x)) e h
no_gaps ts body given pre k (suc u) v pl l h = pick (cases_lt u v)
    (λ m. let e : suc u ≡ v = omega arith in subst (λ (x : ℕ). Has given (use_in pre k x)) e h)
    (λ m. let e : suc u ≡ u + 1 = omega arith in
    no_gaps ts body given pre k u v pl (omega arith)
    (use_before ts body given pre k u pl (subst (λ (x : ℕ). Has given (use_in pre k x)) e h)))
