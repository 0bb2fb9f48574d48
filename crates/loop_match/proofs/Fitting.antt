-- The walk along the last place finds the first of the computed places that the segment fits.
use Rattle.std.proofs.Common.{◌≡◌, ℕ, zero, suc, ◌+◌, List, [], ◌∷◌, ◌++◌, map, Option, Some, None, option_map, Bool, true, false}
use Rattle.std.proofs.Common.{if◌then◌else◌, refl, ap, ◌∙◌}
use Rattle.guide_tree.specs.Words.{Tree, Trees, segment, loop, no_trees, tree, or_else, Segment, fits, Pair, Place, use_of, Candidate}
use Rattle.guide_tree.specs.Words.{into, start_of, starts, may_repeat, again, nexts_in, nexts_from, nexts, first_fit, fit_start}
use Rattle.guide_tree.specs.Words.{fit_starts, fit_in, fit_from, fit_behind}
use Rattle.loop_match.specs.Steps.{last_of}

append_if : (b : Bool) (c : Candidate) (x y z : Option Candidate) → z ≡ or_else x y
    → (if b then Some c else z) ≡ or_else (if b then Some c else x) y
append_if true c x y z e = refl
append_if false c x y z e = e

first_append : (s : Segment) (xs ys : List Candidate) → first_fit s (xs ++ ys) ≡ or_else (first_fit s xs) (first_fit s ys)
first_append s [] ys = refl
first_append s (c ∷ xs) ys =
    append_if (fits c.slot s) c (first_fit s xs) (first_fit s ys) (first_fit s (xs ++ ys)) (first_append s xs ys)

map_if : (b : Bool) (a : Pair) (c : Candidate) (x y : Option Candidate) → y ≡ option_map (into a) x
    → (if b then Some (into a c) else y) ≡ option_map (into a) (if b then Some c else x)
map_if true a c x y e = refl
map_if false a c x y e = e

first_map : (s : Segment) (a : Pair) (cs : List Candidate) → first_fit s (map (into a) cs) ≡ option_map (into a) (first_fit s cs)
first_map s a [] = refl
first_map s a (c ∷ cs) =
    map_if (fits c.slot s) a c (first_fit s cs) (first_fit s (map (into a) cs)) (first_map s a cs)

start_is : (s : Segment) (t : Tree) → first_fit s (start_of t) ≡ fit_start s t
start_is s (segment x) = refl
start_is s (loop l no_trees) = refl
start_is s (loop l (tree (segment x) ts)) = refl
start_is s (loop l (tree (loop k us) ts)) = refl

into_start : (s : Segment) (a : Pair) (t : Tree) → first_fit s (map (into a) (start_of t)) ≡ option_map (into a) (fit_start s t)
into_start s a t = first_map s a (start_of t) ∙ ap (option_map (into a)) (start_is s t)

both : {x y z w : Option Candidate} → x ≡ y → z ≡ w → or_else x z ≡ or_else y w
both {x} {y} {z} {w} e f = ap (λ (o : Option Candidate). or_else o z) e ∙ ap (or_else y) f

pub starts_is : (s : Segment) (k : ℕ) (ts : Trees) → first_fit s (starts k ts) ≡ fit_starts s k ts
starts_is s k no_trees = refl
starts_is s k (tree t ts) =
    first_append s (map (into (use_of k 0)) (start_of t)) (starts (k + 1) ts)
    ∙ both (into_start s (use_of k 0) t) (starts_is s (k + 1) ts)

again_if : (s : Segment) (b : Bool) (a : Pair) (t : Tree)
    → first_fit s (if b then map (into a) (start_of t) else []) ≡ (if b then option_map (into a) (fit_start s t) else None)
again_if s true a t = into_start s a t
again_if s false a t = refl

mutual
  in_is : (s : Segment) (t : Tree) (p : Place) → first_fit s (nexts_in t p) ≡ fit_in s t p
  in_is s (segment x) p = refl
  in_is s (loop l ts) [] = refl
  in_is s (loop l ts) (a ∷ p) = from_is s true ts a.child a p

  from_is : (s : Segment) (il : Bool) (ts : Trees) (n : ℕ) (a : Pair) (p : Place)
      → first_fit s (nexts_from il ts n a p) ≡ fit_from s il ts n a p
  from_is s il no_trees n a p = refl
  from_is s il (tree t ts) (suc n) a p = from_is s il ts n a p
  from_is s il (tree t ts) zero a p =
      first_append s (map (into a) (nexts_in t p)) (again il a t ++ starts (a.child + 1) ts)
      ∙ both (first_map s a (nexts_in t p) ∙ ap (option_map (into a)) (in_is s t p))
      (first_append s (again il a t) (starts (a.child + 1) ts)
      ∙ both (again_if s (may_repeat il a.child) (use_of a.child (a.use_no + 1)) t) (starts_is s (a.child + 1) ts))

-- the walk along the last place finds the first candidate that the segment fits
pub behind_is : (s : Segment) (ts : Trees) (p : Place) → first_fit s (nexts ts (last_of p)) ≡ fit_behind s ts p
behind_is s ts [] = starts_is s 0 ts
behind_is s ts (a ∷ p) = from_is s false ts a.child a p
