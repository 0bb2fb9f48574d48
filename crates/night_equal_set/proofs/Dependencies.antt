-- The faults of a guide's dependencies.
use Rattle.std.proofs.Common.{◌≡◌, ◌↔◌, ℕ, zero, suc, ◌+◌, ◌-◌, List, [], ◌∷◌, ◌++◌, map, Bool, true, false, ◌&&◌, ◌||◌, not, Option}
use Rattle.std.proofs.Common.{Some, None, refl, sym, ap, ◌∙◌, subst, arith}
use Rattle.std.specs.Prelude.{IsTrue, IsFalse, if◌then◌else◌, slice_get, filter, find, flat_map, option_map, cond}
use mathlib.Core.Logic.{◌⊎◌, inl, inr}
use Rattle.std.specs.List.{Contains, list_any}
use Rattle.std.specs.Option.{option_map_or}
use Rattle.std.proofs.lemmas.Bool.{false≢true, true≢false}
use Rattle.std.proofs.lemmas.Option.{none-some, same_Some}
use Rattle.std.proofs.lemmas.List.Elements.{Contains-append_left, Contains-append_right, Contains-append_cases}
use Rattle.x12_bytes.specs.declared.delims.Delims.{Delims}
use Rattle.hub_kinds.specs.declared.fault.Fault.{Fault}
use Rattle.hub_kinds.specs.declared.codes.ElementCode.{ElementCode}
use Rattle.hub_kinds.specs.declared.codes.ElementCode.TheVariants as ik403
use Rattle.hub_kinds.specs.declared.codes.SegmentCode.TheVariants as ik304
use Rattle.guide_tree.specs.Tree.{Tree, Trees, segment, loop, no_trees, tree, GuideTree, or_else}
use Rattle.guide_tree.specs.declared.slot.Slot.{Slot}
use Rattle.guide_tree.specs.declared.rows.Dependency.{Dependency}
use Rattle.guide_tree.specs.declared.rows.DependencyKind.{DependencyKind}
use Rattle.guide_tree.specs.declared.rows.DependencyKind.TheVariants.{Need, Ban}
use Rattle.guide_tree.specs.Words.{has_label}
use Rattle.elem_rules.specs.Rows as old_rows
use Rattle.elem_rules.proofs.ForAbove.{no_member, contains_one, one_contains, from_if, in_then, from_flat_map, in_flat_map}
use Rattle.loop_match.specs.PlacedSegments.{PlacedSegment}
use Rattle.depend_check.specs.Dependencies as old
use Rattle.night_definition.specs.Segments.{Elements, element}
use Rattle.night_definition.specs.Places.{Use}
use Rattle.night_definition.specs.Guides.{slots, slots_in}
use Rattle.night_definition.specs.Elements.{wrong, is_filled}
use Rattle.night_definition.specs.Elements as room_elements
use Rattle.night_definition.specs.Rules as room
use Rattle.night_equal_set.specs.Hl.{seen}
use Rattle.night_equal_set.specs.Dependencies.{IsFaultOf, DependencyFaultsAreOne}
use Rattle.night_equal_set.proofs.HlFaults.{reference_same}
use Rattle.night_equal_set.proofs.Targets.{label_is, trigger_is, any_same}

-- the members of lists that are made of others
pub in_map : {A B : Type 0} (h : A → B) (xs : List A) (x : A) → Contains xs x → Contains (map h xs) (h x)
in_map h [] x there = absurd (no_member x there)
in_map h (y ∷ xs) x there = elim (Contains-append_cases (y ∷ []) xs x there) [
  | inl e ↦ subst (λ z. Contains (h y ∷ map h xs) (h z)) (sym (contains_one y x e))
      (Contains-append_left (h y ∷ []) (map h xs) (h y) (one_contains (h y)))
  | inr e ↦ Contains-append_right (h y ∷ []) (map h xs) (h x) (in_map h xs x e)
]

pub from_map : {A B : Type 0} (h : A → B) (xs : List A) (b : B) → Contains (map h xs) b → (x : A) × Contains xs x × (b ≡ h x)
from_map h [] b c = absurd (no_member b c)
from_map h (y ∷ xs) b c = elim (Contains-append_cases (h y ∷ []) (map h xs) b c) [
  | inl e ↦ (y, Contains-append_left (y ∷ []) xs y (one_contains y), contains_one (h y) b e)
  | inr e ↦ let r = from_map h xs b e in (r.0, Contains-append_right (y ∷ []) xs r.0 r.1, r.2)
]

from_filter : {A : Type 0} (p : A → Bool) (xs : List A) (x : A) → Contains (filter p xs) x → Contains xs x × (p x ≡ true)
from_filter p [] x c = absurd (no_member x c)
from_filter {A} p (y ∷ xs) x c = by (p y) refl c (λ e. from_filter p xs x e)
  where
    behind : Contains xs x × (p x ≡ true) → Contains (y ∷ xs) x × (p x ≡ true)
    behind r = (Contains-append_right (y ∷ []) xs x r.0, r.1)

    by : (b : Bool) → p y ≡ b → Contains (cond b (y ∷ filter p xs) (filter p xs)) x
        → (Contains (filter p xs) x → Contains xs x × (p x ≡ true)) → Contains (y ∷ xs) x × (p x ≡ true)
    by true is c rest = elim (Contains-append_cases (y ∷ []) (filter p xs) x c) [
      | inl e ↦ (Contains-append_left (y ∷ []) xs x e, subst (λ z. p z ≡ true) (sym (contains_one y x e)) is)
      | inr e ↦ behind (rest e)
    ]
    by false is c rest = behind (rest c)

in_filter : {A : Type 0} (p : A → Bool) (xs : List A) (x : A) → Contains xs x → p x ≡ true → Contains (filter p xs) x
in_filter p [] x c passes = absurd (no_member x c)
in_filter {A} p (y ∷ xs) x c passes = by (p y) refl (λ e. in_filter p xs x e passes)
  where
    by : (b : Bool) → p y ≡ b → (Contains xs x → Contains (filter p xs) x) → Contains (cond b (y ∷ filter p xs) (filter p xs)) x
    by true is rest = elim (Contains-append_cases (y ∷ []) xs x c) [
      | inl e ↦ Contains-append_left (y ∷ []) (filter p xs) x e
      | inr e ↦ Contains-append_right (y ∷ []) (filter p xs) x (rest e)
    ]
    by false is rest = elim (Contains-append_cases (y ∷ []) xs x c) [
      | inl e ↦ absurd (false≢true (sym is ∙ subst (λ z. p z ≡ true) (contains_one y x e) passes))
      | inr e ↦ rest e
    ]

any_map : {A B : Type 0} (p : B → Bool) (h : A → B) (xs : List A) → list_any p (map h xs) ≡ list_any (λ x. p (h x)) xs
any_map p h [] = refl
any_map p h (x ∷ xs) = ap (λ b. p (h x) || b) (any_map p h xs)

-- a segment is a use of the slot by the one as by the other
use_is : (label : List ℕ) (x : Use) → room.has_label label x.spot.slot ≡ old.is_use label (seen x)
use_is label x = label_is label (room.given x)

any_use : (label : List ℕ) (xs : List Use) → list_any (old.is_use label) (map seen xs)
    ≡ list_any (λ x. room.has_label label x.spot.slot) xs
any_use label xs =
    any_map (old.is_use label) seen xs
    ∙ sym (any_same (λ (x : Use). room.has_label label x.spot.slot) (λ x. old.is_use label (seen x)) (use_is label) xs)

triggered_is : (r : Dependency) (xs : List Use) → list_any (λ x. room.triggers r (room.given x)) xs
    ≡ old.is_dependency_triggered r (map seen xs)
triggered_is r xs =
    any_same (λ x. room.triggers r (room.given x)) (λ x. old.is_trigger r (seen x)) (λ x. trigger_is r (room.given x)) xs
    ∙ sym (any_map (old.is_trigger r) seen xs)

-- an element's fault
element_told : (x : Use) (e : ℕ) (code : ElementCode) (copy : List ℕ)
    → room.element_fault x (suc e) (wrong 0 0 code copy) ≡ old.element_fault (seen x) (suc e) code copy
element_told x e code copy =
    ap (λ reference. room.use_fault x ik304.ElementErrors
    (Some (record { element = suc e; component = 0; repetition = 0; code = code; reference = reference; copy = copy })))
    (ap (λ j. option_map_or (λ r. room_elements.reference_of r 0) (slice_get x.spot.slot.elements j) []) (before e)
    ∙ reference_same (slice_get x.spot.slot.elements e))
  where
    before : (k : ℕ) → suc k - 1 ≡ k
    before k = omega arith

-- the first slot with a label
abbrev seat : Slot × List ℕ → old.Seat
seat x = record { slot = x.0; loop_id = x.1 }

find_two : (p : Slot × List ℕ → Bool) (xs ys : List (Slot × List ℕ))
    → option_map seat (find p (xs ++ ys)) ≡ or_else (option_map seat (find p xs)) (option_map seat (find p ys))
find_two p [] ys = refl
find_two p (x ∷ xs) ys = by (p x) (find_two p xs ys)
  where
    by : (b : Bool) → option_map seat (find p (xs ++ ys)) ≡ or_else (option_map seat (find p xs)) (option_map seat (find p ys))
        → option_map seat (cond b (Some x) (find p (xs ++ ys))) ≡ or_else (option_map seat (cond b (Some x) (find p xs)))
        (option_map seat (find p ys))
    by true is = refl
    by false is = is

slot_label : (label : List ℕ) (s : Slot) → room.has_label label s ≡ has_label label s
slot_label label s = label_is label ([], s)

mutual
  seat_in : (outer label : List ℕ) (t : Tree)
      → option_map seat (find (λ x. room.has_label label x.0) (slots_in outer t)) ≡ old.seat_in outer label t
  seat_in outer label (segment s) = by (room.has_label label s) ∙ ap (λ b. if b then Some (seat (s, outer)) else None)
      (slot_label label s)
    where
      by : (b : Bool) → option_map seat (cond b (Some (s, outer)) None) ≡ (if b then Some (seat (s, outer)) else None)
      by true = refl
      by false = refl
  seat_in outer label (loop l ts) = seat_among l.id label ts

  seat_among : (outer label : List ℕ) (ts : Trees)
      → option_map seat (find (λ x. room.has_label label x.0) (slots outer ts)) ≡ old.seat_among outer label ts
  seat_among outer label no_trees = refl
  seat_among outer label (tree t ts) =
      find_two (λ x. room.has_label label x.0) (slots_in outer t) (slots outer ts)
      ∙ ap (λ o. or_else o (option_map seat (find (λ x. room.has_label label x.0) (slots outer ts)))) (seat_in outer label t)
      ∙ ap (λ o. or_else (old.seat_in outer label t) o) (seat_among outer label ts)

unused_is : (g : GuideTree) (label : List ℕ) (end : ℕ)
    → room.unused_faults g label end ≡ option_map_or (λ s. old.unused_fault end s ∷ []) (old.seat_of g.nodes label) []
unused_is g label end =
    by (find (λ x. room.has_label label x.0) (slots [] g.nodes)) ∙ ap (λ o. option_map_or (λ s. old.unused_fault end s ∷ []) o [])
    (seat_among [] label g.nodes)
  where
    by : (o : Option (Slot × List ℕ))
        → option_map_or (λ x. record {
          position = end;
          id = x.0.id;
          loop_id = x.1;
          code = ik304.DependentMissing;
          slot = x.0.number;
          elem = None;
        } ∷ []) o []
        ≡ option_map_or (λ s. old.unused_fault end s ∷ []) (option_map seat o) []
    by None = refl
    by (Some x) = refl

seat_from : (end : ℕ) (o : Option old.Seat) (f : Fault) → Contains (option_map_or (λ s. old.unused_fault end s ∷ []) o []) f
    → (s : old.Seat) × (o ≡ Some s) × (f ≡ old.unused_fault end s)
seat_from end None f c = absurd (no_member f c)
seat_from end (Some s) f c = (s, refl, contains_one _ f c)

seat_to : (end : ℕ) (o : Option old.Seat) (f : Fault) (s : old.Seat) → o ≡ Some s → f ≡ old.unused_fault end s
    → Contains (option_map_or (λ s. old.unused_fault end s ∷ []) o []) f
seat_to end o f s is same =
    subst (λ o. Contains (option_map_or (λ s. old.unused_fault end s ∷ []) o []) f) (sym is)
    (subst (λ g. Contains (old.unused_fault end s ∷ []) g) (sym same) (one_contains _))

none_left : {A : Type 0} (p : A → Bool) (xs : List A) → filter p xs ≡ [] → list_any p xs ≡ false
none_left p [] is = refl
none_left {A} p (x ∷ xs) is = by (p x) is (λ e. none_left p xs e)
  where
    by : (b : Bool) → cond b (x ∷ filter p xs) (filter p xs) ≡ [] → (filter p xs ≡ [] → list_any p xs ≡ false) → (b || list_any p xs)
        ≡ false
    by true is rest = absurd (nonempty x (filter p xs) is)
      where
        nonempty : (y : A) (ys : List A) → y ∷ ys ≡ [] → ⊥
        nonempty y ys is = no_member y (subst (λ l. Contains l y) is (Contains-append_left (y ∷ []) ys y (one_contains y)))
    by false is rest = rest is

left_none : {A : Type 0} (p : A → Bool) (xs : List A) → list_any p xs ≡ false → filter p xs ≡ []
left_none p [] is = refl
left_none {A} p (x ∷ xs) is = by (p x) is (λ e. left_none p xs e)
  where
    by : (b : Bool) → (b || list_any p xs) ≡ false → (list_any p xs ≡ false → filter p xs ≡ [])
        → cond b (x ∷ filter p xs) (filter p xs) ≡ []
    by true is rest = absurd (true≢false is)
    by false is rest = rest is

module _ (g : GuideTree) (d : Delims) (end : ℕ) (xs : List Use) (label : List ℕ) (f : Fault) where
  abbrev is_target : Use → Bool
  is_target x = room.has_label label x.spot.slot

  need_from : (targets : List Use) → filter is_target xs ≡ targets → Contains (room.target_faults g d end Need 0 label targets) f
      → old.IsTargetBroken g.nodes d end (map seen xs) label Need 0 f
  need_from [] is c =
      let r = seat_from end (old.seat_of g.nodes label) f (subst (λ l. Contains l f) (unused_is g label end) c) in
      (r.0, r.1, any_use label xs ∙ none_left is_target xs is, r.2)
  need_from (x ∷ targets) is c = absurd (no_member f c)

  to : (kind : DependencyKind) (e : ℕ) → Contains (room.target_faults g d end kind e label (filter is_target xs)) f
      → old.IsTargetBroken g.nodes d end (map seen xs) label kind e f
  to Need zero c = need_from (filter is_target xs) refl c
  to Ban zero c =
      let r = from_map (λ x. room.use_fault x ik304.DependentNotUsedPresent None) (filter is_target xs) f c in
      let s = from_filter is_target xs r.0 r.1 in
      (seen r.0, in_map seen xs r.0 s.0, sym (use_is label r.0) ∙ s.1, r.2)
  to Need (suc e) c =
      let lacks : Use → Bool = λ x. not (is_filled d (element (suc e) x.segment)) in
      let r = from_map (λ x. room.element_fault x (suc e) (wrong 0 0 ik403.DependentMissing []))
      (filter lacks (filter is_target xs)) f c in
      let s = from_filter lacks (filter is_target xs) r.0 r.1 in
      let t = from_filter is_target xs r.0 s.0 in (
        seen r.0,
        record {
          listed = in_map seen xs r.0 t.0;
          used = sym (use_is label r.0) ∙ t.1;
          has = off (is_filled d (element (suc e) r.0.segment)) s.1;
        },
        r.2 ∙ element_told r.0 e ik403.DependentMissing [],
      )
    where
      off : (b : Bool) → not b ≡ true → b ≡ false
      off b is = grind arith
  to Ban (suc e) c =
      let has : Use → Bool = λ x. is_filled d (element (suc e) x.segment) in
      let r = from_map (λ x. room.element_fault x (suc e) (wrong 0 0 ik403.DependentNotUsedPresent (element (suc e) x.segment)))
      (filter has (filter is_target xs)) f c in
      let s = from_filter has (filter is_target xs) r.0 r.1 in
      let t = from_filter is_target xs r.0 s.0 in (
        seen r.0,
        record { listed = in_map seen xs r.0 t.0; used = sym (use_is label r.0) ∙ t.1; has = s.1 },
        r.2 ∙ element_told r.0 e ik403.DependentNotUsedPresent (element (suc e) r.0.segment),
      )

  -- a use that a placed segment is
  behind : (p : PlacedSegment) → Contains (map seen xs) p → IsTrue (old.is_use label p) → (x : Use) × Contains (filter is_target xs) x
      × (p ≡ seen x)
  behind p there used =
      let r = from_map seen xs p there in
      (r.0, in_filter is_target xs r.0 r.1 (use_is label r.0 ∙ subst (λ p. old.is_use label p ≡ true) r.2 used), r.2)

  from : (kind : DependencyKind) (e : ℕ) → old.IsTargetBroken g.nodes d end (map seen xs) label kind e f
      → Contains (room.target_faults g d end kind e label (filter is_target xs)) f
  from Need zero h =
      subst (λ l. Contains (room.target_faults g d end Need 0 label l) f) (sym (left_none is_target xs (sym (any_use label xs) ∙ h.2)))
      (subst (λ l. Contains l f) (sym (unused_is g label end)) (seat_to end (old.seat_of g.nodes label) f h.0 h.1 h.3))
  from Ban zero h =
      let r = behind h.0 h.1 h.2 in
      subst (λ z. Contains (map (λ x. room.use_fault x ik304.DependentNotUsedPresent None) (filter is_target xs)) z)
      (sym (h.3 ∙ ap (λ p. old.use_fault p ik304.DependentNotUsedPresent None) r.2))
      (in_map (λ x. room.use_fault x ik304.DependentNotUsedPresent None) (filter is_target xs) r.0 r.1)
  from Need (suc e) h =
      let lacks : Use → Bool = λ x. not (is_filled d (element (suc e) x.segment)) in
      let r = behind h.0 h.1.listed h.1.used in
      let without : is_filled d (element (suc e) r.0.segment) ≡ false = subst (λ p. old.has_element d p (suc e) ≡ false) r.2 h.1.has in
      subst (λ z. Contains (map (λ x. room.element_fault x (suc e) (wrong 0 0 ik403.DependentMissing []))
      (filter lacks (filter is_target xs))) z)
      (element_told r.0 e ik403.DependentMissing [] ∙ sym (h.2 ∙ ap (λ p. old.element_fault p (suc e) ik403.DependentMissing []) r.2))
      (in_map (λ x. room.element_fault x (suc e) (wrong 0 0 ik403.DependentMissing [])) (filter lacks (filter is_target xs)) r.0
      (in_filter lacks (filter is_target xs) r.0 r.1 (ap not without)))
  from Ban (suc e) h =
      let has : Use → Bool = λ x. is_filled d (element (suc e) x.segment) in
      let r = behind h.0 h.1.listed h.1.used in
      let with_it : is_filled d (element (suc e) r.0.segment) ≡ true = subst (λ p. old.has_element d p (suc e) ≡ true) r.2 h.1.has in
      subst (λ z. Contains (map (λ x. room.element_fault x (suc e) (wrong 0 0 ik403.DependentNotUsedPresent (element (suc e) x.segment)))
      (filter has (filter is_target xs))) z)
      (element_told r.0 e ik403.DependentNotUsedPresent (element (suc e) r.0.segment)
      ∙ sym (h.2 ∙ ap (λ p. old.element_fault p (suc e) ik403.DependentNotUsedPresent (element (suc e) p.segment)) r.2))
      (in_map (λ x. room.element_fault x (suc e) (wrong 0 0 ik403.DependentNotUsedPresent (element (suc e) x.segment)))
      (filter has (filter is_target xs)) r.0
      (in_filter has (filter is_target xs) r.0 r.1 with_it))

abbrev faults_of : GuideTree → Delims → ℕ → List Use → Dependency → List Fault
faults_of g d end xs r =
    if list_any (λ x. room.triggers r (room.given x)) xs
    then room.target_faults g d end r.kind r.element r.target (filter (λ (x : Use). room.has_label r.target x.spot.slot) xs) else []

pub dependency_faults : DependencyFaultsAreOne
dependency_faults g d end xs f = (forth, back)
  where
    forth : Contains (room.dependency_faults g d end xs) f → IsFaultOf g d end (map seen xs) f
    forth c =
        let r = from_flat_map (faults_of g d end xs) g.depends f c in
        elim (from_if (list_any (λ x. room.triggers r.0 (room.given x)) xs) _ _ f r.2) [
          | inl e ↦ (r.0, r.1, sym (triggered_is r.0 xs) ∙ e.0, to g d end xs r.0.target f r.0.kind r.0.element e.1)
          | inr e ↦ absurd (no_member f e.1)
        ]

    back : IsFaultOf g d end (map seen xs) f → Contains (room.dependency_faults g d end xs) f
    back h =
        in_flat_map (faults_of g d end xs) g.depends h.0 f h.1
        (in_then (list_any (λ x. room.triggers h.0 (room.given x)) xs) _ _ f (triggered_is h.0 xs ∙ h.2)
        (from g d end xs h.0.target f h.0.kind h.0.element h.3))
