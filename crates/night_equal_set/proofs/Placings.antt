-- The placing of a body is that of the candidates that are computed today.
use Rattle.std.proofs.Common.{◌≡◌, ◌≢◌, ◌<◌, ℕ, zero, suc, ◌+◌, List, [], ◌∷◌, ◌++◌, map, Bool, true, false, not, ◌&&◌, Option, Some}
use Rattle.std.proofs.Common.{None, refl, sym, ap, ◌∙◌, arith}
use Rattle.std.specs.Prelude.{option_map, if◌then◌else◌, ◌==◌, find}
use Rattle.std.specs.Option.{option_or}
use Rattle.std.proofs.lemmas.List.{map-append}
use Rattle.guide_tree.specs.declared.slot.Slot.{Slot}
use Rattle.guide_tree.specs.Tree.{Tree, Trees, segment, loop, no_trees, tree, or_else}
use Rattle.guide_tree.specs.Places.{Pair, use_of}
use Rattle.guide_tree.specs.Places as old
use Rattle.guide_tree.specs.Segments as old_segments
use Rattle.guide_tree.specs.Nexts.{Candidate, into, start_of, starts, again, nexts_in, nexts_from, nexts, first_fit, placing_from}
use Rattle.guide_tree.specs.Nexts.{placing_of}
use Rattle.night_definition.specs.Segments.{Elements}
use Rattle.night_definition.specs.Guides.{fits}
use Rattle.night_definition.specs.Places.{Place, Spot, under, begins, first_spots, inside, spots_after, next_spots, Placed, placing}
use Rattle.night_equal_set.specs.Placings.{pair, place, place_of, places_of}

-- a spot as a candidate
abbrev pub seen : Spot → Candidate
seen x = record { place = place x.place; slot = x.slot }

-- a segment fits a slot by the same words
pub same_fit : (slot : Slot) (s : Elements) → fits slot s ≡ old_segments.fits slot s
same_fit slot s = refl

start_is : (id : List ℕ) (a : ℕ × ℕ) (t : Tree) → map seen (begins id a t) ≡ map (into (pair a)) (start_of t)
start_is id a (segment s) = refl
start_is id a (loop l no_trees) = refl
start_is id a (loop l (tree (segment s) ts)) = refl
start_is id a (loop l (tree (loop k us) ts)) = refl

starts_are : (id : List ℕ) (k : ℕ) (ts : Trees) → map seen (first_spots id k ts) ≡ starts k ts
starts_are id k no_trees = refl
starts_are id k (tree t ts) =
    map-append seen (begins id (k, 0) t) (first_spots id (k + 1) ts)
    ∙ ap (λ xs. xs ++ map seen (first_spots id (k + 1) ts)) (start_is id (k, 0) t)
    ∙ ap (λ xs. map (into (use_of k 0)) (start_of t) ++ xs) (starts_are id (k + 1) ts)

-- what is under a pair
unders : (a : ℕ × ℕ) (xs : List Spot) → map seen (map (under a) xs) ≡ map (into (pair a)) (map seen xs)
unders a [] = refl
unders a (x ∷ xs) = ap (λ ys. into (pair a) (seen x) ∷ ys) (unders a xs)

again_is : (id : List ℕ) (in_loop : Bool) (a : ℕ × ℕ) (t : Tree)
    → map seen (if in_loop && a.0 == 0 then [] else begins id (a.0, a.1 + 1) t) ≡ again in_loop (pair a) t
again_is id in_loop a t = by (in_loop && a.0 == 0)
  where
    by : (b : Bool) → map seen (if b then [] else begins id (a.0, a.1 + 1) t)
        ≡ (if not b then map (into (use_of a.0 (a.1 + 1))) (start_of t) else [])
    by true = refl
    by false = start_is id (a.0, a.1 + 1) t

earlier : (k n m : ℕ) → m ≡ k + suc n → (k == m) ≡ false
earlier k n m is = grind arith

at_last : (k m : ℕ) → m ≡ k + 0 → (k == m) ≡ true
at_last k m is = grind arith

one_on : (k n m : ℕ) → m ≡ k + suc n → m ≡ k + 1 + n
one_on k n m is = omega arith

empty : (id : List ℕ) (in_loop : Bool) (k : ℕ) (ts : Trees) → map seen (spots_after id in_loop k ts []) ≡ []
empty id in_loop k no_trees = refl
empty id in_loop k (tree t ts) = refl

mutual
  inside_is : (t : Tree) (p : Place) → map seen (inside t p) ≡ nexts_in t (place p)
  inside_is (segment s) p = refl
  inside_is (loop l ts) [] = empty l.id true 0 ts
  inside_is (loop l ts) (a ∷ p) = behind_is l.id true 0 a.0 ts a p (omega arith)

  behind_is : (id : List ℕ) (in_loop : Bool) (k n : ℕ) (ts : Trees) (a : ℕ × ℕ) (p : Place) → a.0 ≡ k + n
      → map seen (spots_after id in_loop k ts (a ∷ p)) ≡ nexts_from in_loop ts n (pair a) (place p)
  behind_is id in_loop k n no_trees a p is = refl
  behind_is id in_loop k zero (tree t ts) a p is =
      let again_here : List Spot = if in_loop && a.0 == 0 then [] else begins id (a.0, a.1 + 1) t in
      let first_here : List Spot = first_spots id (a.0 + 1) ts in
      ap (λ b. map seen (if b then map (under a) (inside t p) ++ (again_here ++ first_here)
      else spots_after id in_loop (k + 1) ts (a ∷ p)))
      (at_last k a.0 is)
      ∙ map-append seen (map (under a) (inside t p)) (again_here ++ first_here)
      ∙ ap (λ xs. xs ++ map seen (again_here ++ first_here)) (unders a (inside t p) ∙ ap (map (into (pair a))) (inside_is t p))
      ∙ ap (λ xs. map (into (pair a)) (nexts_in t (place p)) ++ xs)
      (map-append seen again_here first_here ∙ ap (λ xs. xs ++ map seen first_here) (again_is id in_loop a t)
      ∙ ap (λ xs. again in_loop (pair a) t ++ xs) (starts_are id (a.0 + 1) ts))
  behind_is id in_loop k (suc n) (tree t ts) a p is =
      ap (λ b. map seen (if b then map (under a) (inside t p)
      ++ ((if in_loop && a.0 == 0 then [] else begins id (a.0, a.1 + 1) t) ++ first_spots id (a.0 + 1) ts)
      else spots_after id in_loop (k + 1) ts (a ∷ p))) (earlier k n a.0 is)
      ∙ behind_is id in_loop (k + 1) n ts a p (one_on k n a.0 is)

spots_are : (ts : Trees) (last : Option Place) → map seen (next_spots ts last) ≡ nexts ts (option_map place last)
spots_are ts None = starts_are [] 0 ts
spots_are ts (Some []) = empty [] false 0 ts
spots_are ts (Some (a ∷ p)) = behind_is [] false 0 a.0 ts a p (omega arith)

first_is : (s : Elements) (xs : List Spot) → first_fit s (map seen xs) ≡ option_map seen (find (λ x. fits x.slot s) xs)
first_is s [] = refl
first_is s (x ∷ xs) = by (fits x.slot s) (first_is s xs)
  where
    by : (b : Bool) → first_fit s (map seen xs) ≡ option_map seen (find (λ x. fits x.slot s) xs)
        → (if b then Some (seen x) else first_fit s (map seen xs)) ≡ option_map seen (if b then Some x else find (λ x. fits x.slot s) xs)
    by true is = refl
    by false is = is

next_is : (ts : Trees) (last : Option Place) (s : Elements)
    → option_map (λ (c : Candidate). c.place) (first_fit s (nexts ts (option_map place last)))
    ≡ place_of (find (λ x. fits x.slot s) (next_spots ts last))
next_is ts last s =
    ap (λ xs. option_map (λ (c : Candidate). c.place) (first_fit s xs)) (sym (spots_are ts last))
    ∙ ap (option_map (λ (c : Candidate). c.place)) (first_is s (next_spots ts last))
    ∙ by (find (λ x. fits x.slot s) (next_spots ts last))
  where
    by : (o : Option Spot) → option_map (λ (c : Candidate). c.place) (option_map seen o) ≡ place_of o
    by None = refl
    by (Some x) = refl

last_is : (o : Option Spot) (last : Option Place)
    → or_else (place_of o) (option_map place last) ≡ option_map place (option_or (option_map (λ x. x.place) o) last)
last_is None last = refl
last_is (Some x) last = refl

placing_is_from : (ts : Trees) (last : Option Place) (n : ℕ) (body : List Elements)
    → places_of (placing ts last n body) ≡ placing_from ts (option_map place last) body
placing_is_from ts last n [] = refl
placing_is_from ts last n (s ∷ body) =
    let o : Option Spot = find (λ x. fits x.slot s) (next_spots ts last) in
    let next : Option Place = option_or (option_map (λ x. x.place) o) last in
    ap (λ q. q ∷ places_of (placing ts next (n + 1) body)) (sym (next_is ts last s))
    ∙ ap (λ qs. option_map (λ (c : Candidate). c.place) (first_fit s (nexts ts (option_map place last))) ∷ qs)
    (placing_is_from ts next (n + 1) body
    ∙ ap (λ q. placing_from ts q body) (sym (last_is o last) ∙ ap (λ q. or_else q (option_map place last)) (sym (next_is ts last s))))

-- the placing of a body
pub placing_is : (ts : Trees) (n : ℕ) (body : List Elements) → places_of (placing ts None n body) ≡ placing_of ts body
placing_is ts n body = placing_is_from ts None n body
