-- The segments that have places.
use Rattle.std.proofs.Common.{◌≡◌, ℕ, zero, suc, ◌+◌, List, [], ◌∷◌, ◌++◌, map, length, Bool, true, false, ◌&&◌, Option, Some, None, refl}
use Rattle.std.proofs.Common.{sym, ap, ◌∙◌, subst, arith}
use Rattle.std.specs.Prelude.{if◌then◌else◌, ◌==◌, find, option_map, slice_index_or, cond, filter_map}
use Rattle.std.specs.List.{AllByRecursion, cons_option, Contains, slice_get}
use mathlib.Core.Logic.{inl, inr}
use Rattle.std.proofs.lemmas.List.Elements.{Contains-append_left, Contains-append_right, Contains-append_cases}
use Rattle.elem_rules.proofs.ForAbove.{no_member, contains_one, one_contains}
use Rattle.std.specs.Option.{option_or}
use Rattle.std.proofs.lemmas.List.{append_assoc, append-nil}
use Rattle.std.proofs.lemmas.Option.{none-some, same_Some}
use Rattle.guide_tree.specs.declared.slot.Slot.{Slot}
use Rattle.guide_tree.specs.declared.node.Loop.{Loop}
use Rattle.guide_tree.specs.Tree.{Tree, Trees, segment, loop, no_trees, tree}
use Rattle.guide_tree.specs.Nexts.{placing_of}
use Rattle.guide_tree.specs.Places.{Pair, slot_in, slot_nth, slot_at}
use Rattle.guide_tree.specs.Places as old_places
use Rattle.loop_match.specs.LoopIds.{loop_id_in, loop_id_nth, loop_id_of}
use Rattle.loop_match.specs.PlacedSegments.{PlacedSegment, placed_by, with_placed, placed_among_first, placed_segments}
use Rattle.night_definition.specs.Segments.{Elements}
use Rattle.night_definition.specs.Guides.{fits}
use Rattle.night_definition.specs.Places.{Place, Spot, Placed, Use, under, begins, first_spots, inside, spots_after, next_spots, placing}
use Rattle.night_definition.specs.Places.{uses}
use Rattle.night_equal_set.specs.Placings.{place, place_of, places_of}
use Rattle.night_equal_set.specs.Hl.{seen}
use Rattle.night_equal_set.specs.PlacedSegments.{PlacedAreOne}
use Rattle.night_equal_set.proofs.Placings.{placing_is}

-- a spot in a node
abbrev LeadsIn : (id : List ℕ) → Tree → Spot → Type 0
LeadsIn id t x = (slot_in t (place x.place) ≡ Some x.slot) × (loop_id_in id t (place x.place) ≡ x.loop_id)

-- a spot in one of the nodes from child k on
pub record Leads (k : ℕ) (id : List ℕ) (ts : Trees) (x : Spot) : Type 0 where
  pub pair : ℕ × ℕ
  pub rest : Place
  pub child : ℕ
  pub is : x.place ≡ pair ∷ rest
  pub number : pair.0 ≡ k + child
  pub slot : slot_nth ts child (place rest) ≡ Some x.slot
  pub loop_id : loop_id_nth id ts child (place rest) ≡ x.loop_id

all_both : {A : Type 0} (P : A → Type 0) (xs ys : List A) → AllByRecursion P xs → AllByRecursion P ys → AllByRecursion P (xs ++ ys)
all_both P [] ys p q = q
all_both P (x ∷ xs) ys p q = (p.0, all_both P xs ys p.1 q)

all_map : {A B : Type 0} (P : A → Type 0) (Q : B → Type 0) (h : A → B) (xs : List A) → ((x : A) → P x → Q (h x)) → AllByRecursion P xs
    → AllByRecursion Q (map h xs)
all_map P Q h [] each p = tt
all_map P Q h (x ∷ xs) each p = (each x p.0, all_map P Q h xs each p.1)

all_weaker : {A : Type 0} (P Q : A → Type 0) (xs : List A) → ((x : A) → P x → Q x) → AllByRecursion P xs → AllByRecursion Q xs
all_weaker P Q [] each p = tt
all_weaker P Q (x ∷ xs) each p = (each x p.0, all_weaker P Q xs each p.1)

same : (k m : ℕ) → (k == m) ≡ true → m ≡ k
same k m is = grind arith

begun : (id : List ℕ) (a : ℕ × ℕ) (k : ℕ) (t : Tree) (ts : Trees) → a.0 ≡ k → AllByRecursion (Leads k id (tree t ts)) (begins id a t)
begun id a k (segment s) ts same =
    (record { pair = a; rest = []; child = 0; is = refl; number = same ∙ omega arith; slot = refl; loop_id = refl }, tt)
begun id a k (loop l no_trees) ts same = tt
begun id a k (loop l (tree (segment s) us)) ts same =
    (record { pair = a; rest = (0, 0) ∷ []; child = 0; is = refl; number = same ∙ omega arith; slot = refl; loop_id = refl }, tt)
begun id a k (loop l (tree (loop m vs) us)) ts same = tt

further : (k : ℕ) (id : List ℕ) (t : Tree) (ts : Trees) (x : Spot) → Leads (k + 1) id ts x → Leads k id (tree t ts) x
further k id t ts x r = record {
  pair = r.pair;
  rest = r.rest;
  child = suc r.child;
  is = r.is;
  number = r.number ∙ omega arith;
  slot = r.slot;
  loop_id = r.loop_id;
}

firsts_lead : (id : List ℕ) (k : ℕ) (ts : Trees) → AllByRecursion (Leads k id ts) (first_spots id k ts)
firsts_lead id k no_trees = tt
firsts_lead id k (tree t ts) =
    all_both (Leads k id (tree t ts)) (begins id (k, 0) t) (first_spots id (k + 1) ts) (begun id (k, 0) k t ts refl)
    (all_weaker (Leads (k + 1) id ts) (Leads k id (tree t ts)) (first_spots id (k + 1) ts) (further k id t ts)
    (firsts_lead id (k + 1) ts))

below : (k : ℕ) (id : List ℕ) (t : Tree) (ts : Trees) (a : ℕ × ℕ) (x : Spot) → a.0 ≡ k → LeadsIn id t x
    → Leads k id (tree t ts) (under a x)
below k id t ts a x same r = record {
  pair = a;
  rest = x.place;
  child = 0;
  is = refl;
  number = same ∙ omega arith;
  slot = r.0;
  loop_id = r.1;
}

-- a loop's place goes on in its children
loop_in : (id : List ℕ) (l : Loop) (ts : Trees) (x : Spot) → Leads 0 l.id ts x → LeadsIn id (loop l ts) x
loop_in id l ts x r =
    let there : place x.place ≡ place (r.pair ∷ r.rest) = ap place r.is in
    let number : r.pair.0 ≡ r.child = r.number ∙ omega arith in (
      ap (slot_in (loop l ts)) there ∙ ap (λ n. slot_nth ts n (place r.rest)) number ∙ r.slot,
      ap (loop_id_in id (loop l ts)) there ∙ ap (λ n. loop_id_nth l.id ts n (place r.rest)) number ∙ r.loop_id,
    )

mutual
  inside_lead : (id : List ℕ) (t : Tree) (p : Place) → AllByRecursion (LeadsIn id t) (inside t p)
  inside_lead id (segment s) p = tt
  inside_lead id (loop l ts) p =
      all_weaker (Leads 0 l.id ts) (LeadsIn id (loop l ts)) (spots_after l.id true 0 ts p) (loop_in id l ts)
      (behind_lead l.id true 0 ts p)

  behind_lead : (id : List ℕ) (in_loop : Bool) (k : ℕ) (ts : Trees) (p : Place)
      → AllByRecursion (Leads k id ts) (spots_after id in_loop k ts p)
  behind_lead id in_loop k no_trees p = tt
  behind_lead id in_loop k (tree t ts) [] = tt
  behind_lead id in_loop k (tree t ts) (a ∷ p) = by (k == a.0) refl (inside_lead id t p) (behind_lead id in_loop (k + 1) ts (a ∷ p))
    where
      by : (b : Bool) → (k == a.0) ≡ b → AllByRecursion (LeadsIn id t) (inside t p)
          → AllByRecursion (Leads (k + 1) id ts) (spots_after id in_loop (k + 1) ts (a ∷ p))
          → AllByRecursion (Leads k id (tree t ts)) (if b
          then map (under a) (inside t p) ++ ((if in_loop && a.0 == 0 then [] else begins id (a.0, a.1 + 1) t)
          ++ first_spots id (a.0 + 1) ts)
          else spots_after id in_loop (k + 1) ts (a ∷ p))
      by true is here there =
          all_both (Leads k id (tree t ts)) (map (under a) (inside t p)) _
          (all_map (LeadsIn id t) (Leads k id (tree t ts)) (under a) (inside t p) (λ x r. below k id t ts a x (same k a.0 is) r) here)
          (all_both (Leads k id (tree t ts)) (if in_loop && a.0 == 0 then [] else begins id (a.0, a.1 + 1) t)
          (first_spots id (a.0 + 1) ts)
          (once (in_loop && a.0 == 0))
          (subst (λ j. AllByRecursion (Leads k id (tree t ts)) (first_spots id (j + 1) ts)) (sym (same k a.0 is))
          (all_weaker (Leads (k + 1) id ts) (Leads k id (tree t ts)) (first_spots id (k + 1) ts) (further k id t ts)
          (firsts_lead id (k + 1) ts))))
        where
          once : (c : Bool) → AllByRecursion (Leads k id (tree t ts)) (if c then [] else begins id (a.0, a.1 + 1) t)
          once true = tt
          once false = begun id (a.0, a.1 + 1) k t ts (same k a.0 is)
      by false is here there =
          all_weaker (Leads (k + 1) id ts) (Leads k id (tree t ts)) (spots_after id in_loop (k + 1) ts (a ∷ p)) (further k id t ts)
          there

-- a spot of a guide leads to its slot, in its loop
abbrev IsThere : Trees → Spot → Type 0
IsThere ts x = (slot_at ts (place x.place) ≡ Some x.slot) × (loop_id_of ts (place x.place) ≡ x.loop_id)

at_top : (ts : Trees) (x : Spot) → Leads 0 [] ts x → IsThere ts x
at_top ts x r =
    let there : place x.place ≡ place (r.pair ∷ r.rest) = ap place r.is in
    let number : r.pair.0 ≡ r.child = r.number ∙ omega arith in (
      ap (slot_at ts) there ∙ ap (λ n. slot_nth ts n (place r.rest)) number ∙ r.slot,
      ap (loop_id_of ts) there ∙ ap (λ n. loop_id_nth [] ts n (place r.rest)) number ∙ r.loop_id,
    )

spots_there : (ts : Trees) (last : Option Place) → AllByRecursion (IsThere ts) (next_spots ts last)
spots_there ts None = all_weaker (Leads 0 [] ts) (IsThere ts) (first_spots [] 0 ts) (at_top ts) (firsts_lead [] 0 ts)
spots_there ts (Some p) = all_weaker (Leads 0 [] ts) (IsThere ts) (spots_after [] false 0 ts p) (at_top ts) (behind_lead [] false 0 ts p)

found_there : (ts : Trees) (s : Elements) (xs : List Spot) (x : Spot) → AllByRecursion (IsThere ts) xs → find (λ x. fits x.slot s) xs
    ≡ Some x → IsThere ts x
found_there ts s [] x all is = absurd (none-some x is)
found_there ts s (y ∷ xs) x all is = by (fits y.slot s) is (λ e. found_there ts s xs x all.1 e)
  where
    by : (b : Bool) → cond b (Some y) (find (λ x. fits x.slot s) xs) ≡ Some x → (find (λ x. fits x.slot s) xs ≡ Some x → IsThere ts x)
        → IsThere ts x
    by true is rest = subst (IsThere ts) (same_Some y x is) all.0
    by false is rest = rest is

-- from the front on
abbrev pub from_front : Trees → (index : ℕ) → List Elements → List (Option old_places.Place) → List PlacedSegment
from_front ts m [] given = []
from_front ts m (s ∷ body) [] = []
from_front ts m (s ∷ body) (o ∷ given) = cons_option (placed_by ts m s o) (from_front ts (m + 1) body given)

abbrev one_use : ℕ → Elements → Option Spot → Option Use
one_use n s o = option_map (λ x. record { position = n; segment = s; spot = x }) o

one_placed : (ts : Trees) (m : ℕ) (s : Elements) (o : Option Spot) → ((x : Spot) → o ≡ Some x → IsThere ts x)
    → option_map seen (one_use (m + 2) s o) ≡ placed_by ts m s (place_of o)
one_placed ts m s None there = refl
one_placed ts m s (Some x) there =
    let r = there x refl in
    ap (λ id. Some (record { position = m + 2; segment = s; slot = x.slot; loop_id = id })) (sym r.1)
    ∙ ap (option_map (λ slot. record { position = m + 2; segment = s; slot = slot; loop_id = loop_id_of ts (place x.place) })) (sym r.0)

map_cons : (o : Option Use) (xs : List Use) → map seen (cons_option o xs) ≡ cons_option (option_map seen o) (map seen xs)
map_cons None xs = refl
map_cons (Some x) xs = refl

front_is : (ts : Trees) (last : Option Place) (m : ℕ) (body : List Elements)
    → map seen (uses (placing ts last (m + 2) body)) ≡ from_front ts m body (places_of (placing ts last (m + 2) body))
front_is ts last m [] = refl
front_is ts last m (s ∷ body) =
    let o : Option Spot = find (λ x. fits x.slot s) (next_spots ts last) in
    let next : Option Place = option_or (option_map (λ x. x.place) o) last in
    map_cons (one_use (m + 2) s o) (uses (placing ts next (m + 2 + 1) body))
    ∙ ap (λ q. cons_option q (map seen (uses (placing ts next (m + 2 + 1) body))))
    (one_placed ts m s o (λ x is. found_there ts s (next_spots ts last) x (spots_there ts last) is))
    ∙ ap (cons_option (placed_by ts m s (place_of o)))
    (subst (λ k. map seen (uses (placing ts next k body)) ≡ from_front ts (m + 1) body (places_of (placing ts next k body))) (on m)
    (front_is ts next (m + 1) body))
  where
    on : (m : ℕ) → m + 1 + 2 ≡ m + 2 + 1
    on m = omega arith

-- the layer's list, from the front on
abbrev among : Trees → ℕ → List Elements → List (Option old_places.Place) → ℕ → List PlacedSegment
among ts m body given zero = []
among ts m body given (suc n) = with_placed (among ts m body given n)
    (placed_by ts (m + n) (slice_index_or body n []) (slice_index_or given n None))

with_cons : (o p : Option PlacedSegment) (xs : List PlacedSegment) → with_placed (cons_option o xs) p ≡ cons_option o (with_placed xs p)
with_cons None p xs = refl
with_cons (Some x) None xs = refl
with_cons (Some x) (Some y) xs = refl

with_first : (o : Option PlacedSegment) → with_placed [] o ≡ cons_option o []
with_first None = refl
with_first (Some x) = refl

among_cons : (ts : Trees) (m : ℕ) (s : Elements) (body : List Elements) (o : Option old_places.Place)
    (given : List (Option old_places.Place)) (n : ℕ)
    → among ts m (s ∷ body) (o ∷ given) (suc n) ≡ cons_option (placed_by ts m s o) (among ts (m + 1) body given n)
among_cons ts m s body o given zero = with_first (placed_by ts (m + 0) s o) ∙ ap (λ k. cons_option (placed_by ts k s o) []) (omega arith)
among_cons ts m s body o given (suc n) =
    let p : Option PlacedSegment = placed_by ts (m + suc n) (slice_index_or body n []) (slice_index_or given n None) in
    ap (λ xs. with_placed xs p) (among_cons ts m s body o given n)
    ∙ with_cons (placed_by ts m s o) p (among ts (m + 1) body given n)
    ∙ ap (λ k. cons_option (placed_by ts m s o) (with_placed (among ts (m + 1) body given n)
    (placed_by ts k (slice_index_or body n []) (slice_index_or given n None)))) (on m n)
  where
    on : (m n : ℕ) → m + suc n ≡ m + 1 + n
    on m n = omega arith

among_front : (ts : Trees) (m : ℕ) (body : List Elements) (given : List (Option old_places.Place)) → length given ≡ length body
    → among ts m body given (length body) ≡ from_front ts m body given
among_front ts m [] given same = refl
among_front ts m (s ∷ body) [] same = absurd (omega (arith, same))
among_front ts m (s ∷ body) (o ∷ given) same =
    among_cons ts m s body o given (length body) ∙ ap (cons_option (placed_by ts m s o))
    (among_front ts (m + 1) body given (omega (arith, same)))

among_zero : (ts : Trees) (body : List Elements) (given : List (Option old_places.Place)) (n : ℕ) → among ts 0 body given n
    ≡ placed_among_first ts body given n
among_zero ts body given zero = refl
among_zero ts body given (suc n) =
    ap (λ xs. with_placed xs (placed_by ts (0 + n) (slice_index_or body n []) (slice_index_or given n None))) (among_zero ts body given n)
    ∙ ap (λ k. with_placed (placed_among_first ts body given n) (placed_by ts k (slice_index_or body n [])
    (slice_index_or given n None))) (on n)
  where
    on : (n : ℕ) → 0 + n ≡ n
    on n = omega arith

placing_length : (ts : Trees) (last : Option Place) (n : ℕ) (body : List Elements) → length (places_of (placing ts last n body))
    ≡ length body
placing_length ts last n [] = refl
placing_length ts last n (s ∷ body) =
    let o : Option Spot = find (λ x. fits x.slot s) (next_spots ts last) in
    ap suc (placing_length ts (option_or (option_map (λ x. x.place) o) last) (n + 1) body)

pub placed : PlacedAreOne
placed ts body =
    front_is ts None 0 body
    ∙ sym (among_front ts 0 body (places_of (placing ts None 2 body)) (placing_length ts None 2 body))
    ∙ among_zero ts body (places_of (placing ts None 2 body)) (length body)
    ∙ ap (placed_segments ts body) (placing_is ts 2 body)

-- one that stands in such a list stands at an index
pub record IsAt (ts : Trees) (m : ℕ) (body : List Elements) (given : List (Option old_places.Place)) (p : PlacedSegment) : Type 0 where
  pub index : ℕ
  pub place : old_places.Place
  pub given_place : slice_get given index ≡ Some (Some place)
  pub segment : slice_get body index ≡ Some p.segment
  pub slot : slot_at ts place ≡ Some p.slot
  pub position : p.position ≡ m + index + 2
  pub loop_id : p.loop_id ≡ loop_id_of ts place

at_next : (ts : Trees) (m : ℕ) (s : Elements) (body : List Elements) (o : Option old_places.Place)
    (given : List (Option old_places.Place)) (p : PlacedSegment)
    → IsAt ts (m + 1) body given p → IsAt ts m (s ∷ body) (o ∷ given) p
at_next ts m s body o given p r = record {
  index = suc r.index;
  place = r.place;
  given_place = r.given_place;
  segment = r.segment;
  slot = r.slot;
  position = r.position ∙ omega arith;
  loop_id = r.loop_id;
}

pub at_from : (ts : Trees) (m : ℕ) (body : List Elements) (given : List (Option old_places.Place)) (p : PlacedSegment)
    → Contains (from_front ts m body given) p → IsAt ts m body given p
at_from ts m [] given p c = absurd (no_member p c)
at_from ts m (s ∷ body) [] p c = absurd (no_member p c)
at_from ts m (s ∷ body) (None ∷ given) p c = at_next ts m s body None given p (at_from ts (m + 1) body given p c)
at_from ts m (s ∷ body) (Some q ∷ given) p c = by (slot_at ts q) refl c (λ e. at_from ts (m + 1) body given p e)
  where
    by : (o : Option Slot) → slot_at ts q ≡ o
        → Contains (cons_option (option_map
        (λ slot. record { position = m + 2; segment = s; slot = slot; loop_id = loop_id_of ts q }) o)
        (from_front ts (m + 1) body given)) p
        → (Contains (from_front ts (m + 1) body given) p → IsAt ts (m + 1) body given p) → IsAt ts m (s ∷ body) (Some q ∷ given) p
    by None is c rest = at_next ts m s body (Some q) given p (rest c)
    by (Some slot) is c rest =
        let here : PlacedSegment = record { position = m + 2; segment = s; slot = slot; loop_id = loop_id_of ts q } in
        elim (Contains-append_cases (here ∷ []) (from_front ts (m + 1) body given) p c) [
          | inl e ↦ subst (IsAt ts m (s ∷ body) (Some q ∷ given)) (sym (contains_one here p e))
              (record { index = 0; place = q; given_place = refl; segment = refl; slot = is; position = (omega arith); loop_id = refl })
          | inr e ↦ at_next ts m s body (Some q) given p (rest e)
        ]

behind_option : (o : Option PlacedSegment) (xs : List PlacedSegment) (p : PlacedSegment) → Contains xs p → Contains (cons_option o xs) p
behind_option None xs p c = c
behind_option (Some x) xs p c = Contains-append_right (x ∷ []) xs p c

pub at_to : (ts : Trees) (m : ℕ) (body : List Elements) (given : List (Option old_places.Place)) (index : ℕ) (s : Elements)
    (q : old_places.Place) (slot : Slot)
    → slice_get given index ≡ Some (Some q) → slice_get body index ≡ Some s → slot_at ts q ≡ Some slot
    → Contains (from_front ts m body given) (record { position = m + index + 2; segment = s; slot = slot; loop_id = loop_id_of ts q })
at_to ts m [] given index s q slot there is leads = absurd (none-some s is)
at_to ts m (t ∷ body) [] index s q slot there is leads = absurd (none-some (Some q) there)
at_to ts m (t ∷ body) (o ∷ given) zero s q slot there is leads =
    subst (λ o. Contains (cons_option (placed_by ts m t o) (from_front ts (m + 1) body given)) one) (sym (same_Some o (Some q) there))
    (subst (λ t. Contains (cons_option (placed_by ts m t (Some q)) (from_front ts (m + 1) body given)) one) (sym (same_Some t s is))
    (subst (λ r. Contains (cons_option
    (option_map (λ slot. record { position = m + 2; segment = s; slot = slot; loop_id = loop_id_of ts q }) r)
    (from_front ts (m + 1) body given)) one) (sym leads)
    (subst (λ n. Contains (record { position = m + 2; segment = s; slot = slot; loop_id = loop_id_of ts q } ∷ from_front ts
    (m + 1) body given)
    (record { position = n; segment = s; slot = slot; loop_id = loop_id_of ts q })) (on m)
    (Contains-append_left (record { position = m + 2; segment = s; slot = slot; loop_id = loop_id_of ts q } ∷ [])
    (from_front ts (m + 1) body given) _ (one_contains _)))))
  where
    one : PlacedSegment
    one = record { position = m + 0 + 2; segment = s; slot = slot; loop_id = loop_id_of ts q }

    on : (m : ℕ) → m + 2 ≡ m + 0 + 2
    on m = omega arith
at_to ts m (t ∷ body) (o ∷ given) (suc n) s q slot there is leads =
    behind_option (placed_by ts m t o) (from_front ts (m + 1) body given) _
    (subst (λ k. Contains (from_front ts (m + 1) body given) (record
    { position = k; segment = s; slot = slot; loop_id = loop_id_of ts q })) (on m n)
    (at_to ts (m + 1) body given n s q slot there is leads))
  where
    on : (m n : ℕ) → m + 1 + n + 2 ≡ m + suc n + 2
    on m n = omega arith

-- the uses of a body are these
pub uses_front : (ts : Trees) (body : List Elements) → map seen (uses (placing ts None 2 body))
    ≡ from_front ts 0 body (placing_of ts body)
uses_front ts body = front_is ts None 0 body ∙ ap (from_front ts 0 body) (placing_is ts 2 body)
