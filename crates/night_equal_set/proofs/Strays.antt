-- The segments that have no place.
use Rattle.std.proofs.Common.{◌≡◌, ◌↔◌, ◌⊎◌, inl, inr, ℕ, zero, suc, ◌+◌, List, [], ◌∷◌, ◌++◌, map, Bool, true, false, ◌&&◌, ◌||◌, Option}
use Rattle.std.proofs.Common.{Some, None, refl, sym, ap, ◌∙◌, subst, arith}
use Rattle.std.specs.Prelude.{if◌then◌else◌, is_some, is_none, find, option_map, slice_get, filter, cond, bytes_eq}
use Rattle.std.specs.List.{list_any, list_all, Contains}
use Rattle.std.specs.Option.{option_or}
use Rattle.std.proofs.lemmas.Bool.{false≢true, true≢false}
use Rattle.std.proofs.lemmas.Option.{none-some, same_Some}
use Rattle.std.proofs.lemmas.List.Folds.{list_any-append}
use Rattle.std.proofs.lemmas.List.Elements.{Contains-append_left, Contains-append_right, Contains-append_cases}
use Rattle.hub_kinds.specs.declared.fault.Fault.{Fault}
use Rattle.hub_kinds.specs.declared.codes.SegmentCode.{SegmentCode}
use Rattle.hub_kinds.specs.declared.codes.SegmentCode.TheVariants as ik304
use Rattle.elem_rules.proofs.ForAbove.{no_member, contains_one, one_contains}
use Rattle.guide_tree.specs.declared.slot.Slot.{Slot}
use Rattle.guide_tree.specs.Tree.{Tree, Trees, segment, loop, no_trees, tree, GuideTree, find_slot, find_slot_in, any_slot, or_else}
use Rattle.guide_tree.specs.Places as old_places
use Rattle.guide_tree.specs.Structure as old
use Rattle.guide_tree.specs.Nexts.{placing_of}
use Rattle.night_definition.specs.Segments.{Elements, element}
use Rattle.night_definition.specs.Guides.{fits, slots, slots_in, is_among}
use Rattle.night_definition.specs.Places.{Place, Spot, Placed, next_spots, placing}
use Rattle.night_definition.specs.Structure as room
use Rattle.night_equal_set.specs.Placings.{place_of, places_of}
use Rattle.night_equal_set.specs.Strays.{StraysAreOne}
use Rattle.night_equal_set.proofs.Placings.{placing_is}

either : (o p : Option Slot) → (is_some o || is_some p) ≡ is_some (or_else o p)
either None p = refl
either (Some x) p = refl

mutual
  any_in : (test : Slot → Bool) (id : List ℕ) (t : Tree) → list_any (λ x. test x.0) (slots_in id t) ≡ is_some (find_slot_in test t)
  any_in test id (segment s) = by (test s)
    where
      by : (b : Bool) → (b || false) ≡ is_some (if b then Some s else None)
      by true = refl
      by false = refl
  any_in test id (loop l ts) = any_is test l.id ts

  any_is : (test : Slot → Bool) (id : List ℕ) (ts : Trees) → list_any (λ x. test x.0) (slots id ts) ≡ any_slot test ts
  any_is test id no_trees = refl
  any_is test id (tree t ts) =
      list_any-append (λ (x : Slot × List ℕ). test x.0) (slots_in id t) (slots id ts)
      ∙ ap (λ b. b || list_any (λ x. test x.0) (slots id ts)) (any_in test id t)
      ∙ ap (λ b. is_some (find_slot_in test t) || b) (any_is test id ts)
      ∙ either (find_slot_in test t) (find_slot test ts)

-- what fits has the id
has_id : (s : Elements) (xs : List (Slot × List ℕ)) → list_any (λ x. fits x.0 s) xs ≡ true
    → list_any (λ x. bytes_eq x.0.id (element 0 s)) xs ≡ true
has_id s [] is = is
has_id s (x ∷ xs) is =
    by (bytes_eq x.0.id (element 0 s)) (list_all (λ p. is_among p.codes (element p.position s)) x.0.picks) (list_any (λ x. fits x.0 s) xs)
    (list_any (λ x. bytes_eq x.0.id (element 0 s)) xs) is (λ e. has_id s xs e)
  where
    by : (a b c e : Bool) → ((a && b) || c) ≡ true → (c ≡ true → e ≡ true) → (a || e) ≡ true
    by true b c e is rest = refl
    by false b c e is rest = rest is

code_is : (g : GuideTree) (s : Elements) → room.stray_code g s ≡ old.stray_code g s
code_is g s =
    by (list_any (λ x. fits x.0 s) (slots [] g.nodes)) (list_any (λ x. bytes_eq x.0.id (element 0 s)) (slots [] g.nodes))
    (has_id s (slots [] g.nodes))
    ∙ ap (λ a. if a then (if list_any (λ x. fits x.0 s) (slots [] g.nodes) then ik304.OutOfSequence else ik304.UnexpectedSegment)
    else unknown)
    (any_is (λ slot. bytes_eq slot.id (element 0 s)) [] g.nodes)
    ∙ ap (λ b. if any_slot (λ slot. bytes_eq slot.id (element 0 s)) g.nodes
    then (if b then ik304.OutOfSequence else ik304.UnexpectedSegment) else unknown)
    (any_is (λ slot. fits slot s) [] g.nodes)
  where
    unknown : SegmentCode
    unknown = if is_among g.head.dictionary (element 0 s) then ik304.NotInSet else ik304.UnrecognizedSegment

    by : (b a : Bool) → (b ≡ true → a ≡ true)
        → (if b then ik304.OutOfSequence else if a then ik304.UnexpectedSegment else unknown)
        ≡ (if a then (if b then ik304.OutOfSequence else ik304.UnexpectedSegment) else unknown)
    by true true is = refl
    by true false is = absurd (false≢true (is refl))
    by false a is = refl

abbrev told : GuideTree → ℕ → Elements → SegmentCode → Fault
told g n s code = record { position = n; id = element 0 s; loop_id = []; code = code; slot = 0; elem = None }

-- one of those from an index on
abbrev IsStrayFrom : GuideTree → ℕ → List Elements → List (Option old_places.Place) → Fault → Type 0
IsStrayFrom g m body given f = (k : ℕ) × (s : Elements) × (slice_get body k ≡ Some s) × (slice_get given k ≡ Some None)
    × (f ≡ told g (m + k + 2) s (old.stray_code g s))

abbrev shown : GuideTree → Placed → Fault
shown g p = told g p.position p.segment (room.stray_code g p.segment)

abbrev strays : GuideTree → List Placed → List Fault
strays g placed = map (shown g) (filter (λ p. is_none p.spot) placed)

to : (g : GuideTree) (last : Option Place) (m : ℕ) (body : List Elements) (f : Fault)
    → Contains (strays g (placing g.nodes last (m + 2) body)) f
    → IsStrayFrom g m body (places_of (placing g.nodes last (m + 2) body)) f
to g last m [] f c = absurd (no_member f c)
to g last m (s ∷ body) f c =
    by (find (λ x. fits x.slot s) (next_spots g.nodes last)) c
    (λ next e. subst (λ n. Contains (strays g (placing g.nodes next n body)) f
    → IsStrayFrom g (m + 1) body (places_of (placing g.nodes next n body)) f) (on m)
    (to g next (m + 1) body f) e)
  where
    on : (m : ℕ) → m + 1 + 2 ≡ m + 2 + 1
    on m = omega arith

    further : (next : Option Place) (o : Option old_places.Place) → IsStrayFrom g (m + 1) body
        (places_of (placing g.nodes next (m + 2 + 1) body)) f
        → IsStrayFrom g m (s ∷ body) (o ∷ places_of (placing g.nodes next (m + 2 + 1) body)) f
    further next o r = (suc r.0, r.1, r.2, r.3, r.4 ∙ ap (λ n. told g n r.1 (old.stray_code g r.1)) (moved m r.0))
      where
        moved : (m k : ℕ) → m + 1 + k + 2 ≡ m + suc k + 2
        moved m k = omega arith

    by : (o : Option Spot)
        → Contains (strays g (record { position = m + 2; segment = s; spot = o } ∷ placing g.nodes
        (option_or (option_map (λ x. x.place) o) last) (m + 2 + 1) body)) f
        → ((next : Option Place) → Contains (strays g (placing g.nodes next (m + 2 + 1) body)) f
        → IsStrayFrom g (m + 1) body (places_of (placing g.nodes next (m + 2 + 1) body)) f)
        → IsStrayFrom g m (s ∷ body) (place_of o ∷ places_of
        (placing g.nodes (option_or (option_map (λ x. x.place) o) last) (m + 2 + 1) body)) f
    by None c rest = elim (Contains-append_cases (told g (m + 2) s (room.stray_code g s) ∷ [])
        (strays g (placing g.nodes last (m + 2 + 1) body)) f c) [
          | inl e ↦ (
            0,
            s,
            refl,
            refl,
            contains_one _ f e ∙ ap (told g (m + 2) s) (code_is g s)
                ∙ ap (λ n. told g n s (old.stray_code g s)) (first m),
          )
          | inr e ↦ further last None (rest last e)
        ]
      where
        first : (m : ℕ) → m + 2 ≡ m + 0 + 2
        first m = omega arith
    by (Some x) c rest = further (Some x.place) (place_of (Some x)) (rest (Some x.place) c)

from : (g : GuideTree) (last : Option Place) (m : ℕ) (body : List Elements) (f : Fault) (k : ℕ) (t : Elements) → slice_get body k ≡ Some t
    → slice_get (places_of (placing g.nodes last (m + 2) body)) k ≡ Some None → f ≡ told g (m + k + 2) t (old.stray_code g t)
    → Contains (strays g (placing g.nodes last (m + 2) body)) f
from g last m [] f k t there unplaced is = absurd (none-some t there)
from g last m (s ∷ body) f zero t there unplaced is = by (find (λ x. fits x.slot s) (next_spots g.nodes last)) unplaced
  where
    first : (m : ℕ) → m + 0 + 2 ≡ m + 2
    first m = omega arith

    same : f ≡ told g (m + 2) s (room.stray_code g s)
    same = is ∙ ap (λ n. told g n t (old.stray_code g t)) (first m) ∙ ap (λ z. told g (m + 2) z (old.stray_code g z))
        (sym (same_Some s t there))
        ∙ ap (told g (m + 2) s) (sym (code_is g s))

    by : (o : Option Spot) → Some (place_of o) ≡ Some None
        → Contains (strays g (record { position = m + 2; segment = s; spot = o } ∷ placing g.nodes
        (option_or (option_map (λ x. x.place) o) last) (m + 2 + 1) body)) f
    by None unplaced =
        Contains-append_left (told g (m + 2) s (room.stray_code g s) ∷ []) (strays g (placing g.nodes last (m + 2 + 1) body)) f
        (subst (λ z. Contains (told g (m + 2) s (room.stray_code g s) ∷ []) z) (sym same) (one_contains _))
    by (Some x) unplaced = let no : Some _ ≡ None = same_Some (place_of (Some x)) None unplaced in absurd (none-some _ (sym no))
from g last m (s ∷ body) f (suc k) t there unplaced is =
    by (find (λ x. fits x.slot s) (next_spots g.nodes last)) unplaced
    (λ next e. subst (λ n. slice_get (places_of (placing g.nodes next n body)) k ≡ Some None
    → Contains (strays g (placing g.nodes next n body)) f) (on m)
    (λ e. from g next (m + 1) body f k t there e (is ∙ ap (λ n. told g n t (old.stray_code g t)) (moved m k))) e)
  where
    on : (m : ℕ) → m + 1 + 2 ≡ m + 2 + 1
    on m = omega arith

    moved : (m k : ℕ) → m + suc k + 2 ≡ m + 1 + k + 2
    moved m k = omega arith

    by : (o : Option Spot)
        → slice_get (places_of (placing g.nodes (option_or (option_map (λ x. x.place) o) last) (m + 2 + 1) body)) k ≡ Some None
        → ((next : Option Place) → slice_get (places_of (placing g.nodes next (m + 2 + 1) body)) k ≡ Some None
        → Contains (strays g (placing g.nodes next (m + 2 + 1) body)) f)
        → Contains (strays g (record { position = m + 2; segment = s; spot = o } ∷ placing g.nodes
        (option_or (option_map (λ x. x.place) o) last) (m + 2 + 1) body)) f
    by None unplaced rest =
        Contains-append_right (told g (m + 2) s (room.stray_code g s) ∷ []) (strays g (placing g.nodes last (m + 2 + 1) body)) f
        (rest last unplaced)
    by (Some x) unplaced rest = rest (Some x.place) unplaced

pub strays_are : StraysAreOne
strays_are g body f = (forth, back)
  where
    zero_on : (k : ℕ) → 0 + k + 2 ≡ k + 2
    zero_on k = omega arith

    forth : Contains (room.stray_faults g (placing g.nodes None 2 body)) f → old.IsStray g body (placing_of g.nodes body) f
    forth c =
        let r = to g None 0 body f c in
        record {
          index = r.0;
          segment = r.1;
          there = r.2;
          unplaced = ap (λ l. slice_get l r.0) (sym (placing_is g.nodes 2 body)) ∙ r.3;
          is = r.4 ∙ ap (λ n. told g n r.1 (old.stray_code g r.1)) (zero_on r.0);
        }

    back : old.IsStray g body (placing_of g.nodes body) f → Contains (room.stray_faults g (placing g.nodes None 2 body)) f
    back r =
        from g None 0 body f r.index r.segment r.there (ap (λ l. slice_get l r.index) (placing_is g.nodes 2 body) ∙ r.unplaced)
        (r.is ∙ ap (λ n. told g n r.segment (old.stray_code g r.segment)) (sym (zero_on r.index)))
