-- Placed segments in the order of their slots' labels: the uses of a slot stand between two points.
use Rattle.std.proofs.Common.{◌≡◌, inl, inr, ℕ, ◌+◌, ◌-◌, ◌≤◌, Bool, true, false, List, [], length, get_or, take, drop, refl, sym}
use Rattle.std.proofs.Common.{subst, ◌∙◌, arith, true≢false, Option, Some, None}
use Rattle.std.specs.Cmp.Lexicographic.{slice_cmp}
use Rattle.std.specs.List.{Contains, AllWithin}
use Rattle.std.specs.List.Sorted.{IsNonDecreasingBy, IsPartitionedBy, IsPartitionPoint}
use Rattle.std.specs.Option.{option_map_or}
use Rattle.std.specs.Ordering.{is_le, is_lt, is_eq, nat_cmp, ordering_index}
use Rattle.std.specs.Str.{bytes_eq}
use Rattle.std.specs.declared.cmp.Ordering.{Ordering}
use Rattle.std.specs.declared.cmp.Ordering.TheVariants.{Less, Equal, Greater}
use Rattle.std.proofs.lemmas.Cmp.{nat_list_cmp_total}
use Rattle.std.proofs.lemmas.List.{take-append-drop, get_or-take, get_or-drop, length-take-le, length-drop, take_all}
use Rattle.std.proofs.lemmas.List.Elements.{Contains-append_left, Contains-append_right, Contains-append_cases}
use Rattle.std.proofs.lemmas.List.Sorted.{searchable_from_sorted, IsNonDecreasingBy-drop}
use Rattle.std.proofs.lemmas.Map.Text.{is_eq-slice_cmp}
use Rattle.loop_match.specs.declared.placed.PlacedSeg.{PlacedSeg}
use Rattle.loop_match.specs.PlacedSegments.{PlacedSegment}
use Rattle.loop_match.specs.Viewed.{placed_view, placed_views}
use Rattle.depend_check.specs.Dependencies.{is_use}
use Rattle.depend_check.specs.Uses.{label_at, AreByLabel, HaveSameUses}
use Rattle.depend_check.proofs.Lists.{from_map, in_map}

abbrev pub order_to : List ℕ → PlacedSeg → Ordering
order_to label p = slice_cmp nat_cmp (label_at p) label

abbrev pub before : List ℕ → PlacedSeg → Bool
before label p = is_lt (order_to label p)

abbrev pub not_behind : List ℕ → PlacedSeg → Bool
not_behind label p = is_le (order_to label p)

abbrev Rises : List ℕ → List PlacedSeg → Type 0
Rises label ps = IsNonDecreasingBy (λ y. ordering_index (order_to label y)) ps

rises : (label : List ℕ) (ps : List PlacedSeg) → AreByLabel ps → Rises label ps
rises label ps sorted = searchable_from_sorted nat_list_cmp_total label_at ps label sorted

lt_down : (a b : Ordering) → ordering_index a ≤ ordering_index b → is_lt b ≡ true → is_lt a ≡ true
lt_down Less b l h = refl
lt_down Equal Less l h = absurd (omega arith)
lt_down Equal Equal l h = h
lt_down Equal Greater l h = h
lt_down Greater Less l h = absurd (omega arith)
lt_down Greater Equal l h = h
lt_down Greater Greater l h = h

le_down : (a b : Ordering) → ordering_index a ≤ ordering_index b → is_le b ≡ true → is_le a ≡ true
le_down Less b l h = refl
le_down Equal b l h = refl
le_down Greater Less l h = absurd (omega arith)
le_down Greater Equal l h = absurd (omega arith)
le_down Greater Greater l h = h

pub parted_before : (label : List ℕ) (ps : List PlacedSeg) → AreByLabel ps → IsPartitionedBy (before label) ps
parted_before label ps sorted i j d l within h =
    lt_down (order_to label (get_or ps i d)) (order_to label (get_or ps j d)) (rises label ps sorted i j d l within) h

pub parted_behind : (label : List ℕ) (ps : List PlacedSeg) (from : ℕ) → AreByLabel ps → IsPartitionedBy (not_behind label) (drop from ps)
parted_behind label ps from sorted i j d l within h =
    let up = IsNonDecreasingBy-drop (λ y. ordering_index (order_to label y)) from ps (rises label ps sorted) in
    le_down (order_to label (get_or (drop from ps) i d)) (order_to label (get_or (drop from ps) j d)) (up i j d l within) h

-- what holds up to a point, and from it on
up_to : (P : PlacedSeg → Type 0) (xs : List PlacedSeg) (n : ℕ) (x : PlacedSeg) → n ≤ length xs → AllWithin P xs 0 n → Contains (take n xs) x
    → P x
up_to P xs n x within all (k, l, e) =
    let m : length (take n xs) ≡ n = length-take-le n xs within in
    subst P (sym (get_or-take n xs k x (omega arith)) ∙ e) (all k x (omega arith) (omega arith))

from_on : (P : PlacedSeg → Type 0) (xs : List PlacedSeg) (n : ℕ) (x : PlacedSeg) → AllWithin P xs n (length xs)
    → Contains (drop n xs) x → P x
from_on P xs n x all (k, l, e) =
    let m : length (drop n xs) ≡ length xs - n = length-drop n xs in
    subst P (sym (get_or-drop n xs k x) ∙ e) (all (n + k) x (omega arith) (omega arith))

-- a use's slot has the label
labelled_so : (label : List ℕ) (own : Option (List ℕ)) → option_map_or (λ l. bytes_eq l label) own false ≡ true
    → bytes_eq (option_map_or (λ l. l) own []) label ≡ true
labelled_so label None h = cc
labelled_so label (Some l) h = h

not_before : (o : Ordering) → is_eq o ≡ true → is_lt o ≡ true → ⊥
not_before Less e l = true≢false (sym e)
not_before Equal e l = true≢false (sym l)
not_before Greater e l = true≢false (sym l)

not_past : (o : Ordering) → is_eq o ≡ true → is_le o ≡ false → ⊥
not_past Less e l = true≢false l
not_past Equal e l = true≢false l
not_past Greater e l = true≢false (sym e)

at_label : (label : List ℕ) (p : PlacedSeg) → is_use label (placed_view p) ≡ true → is_eq (order_to label p) ≡ true
at_label label p u = is_eq-slice_cmp (label_at p) label ∙ labelled_so label p.slot.now.label u

part_of : (ps : List PlacedSeg) (from to : ℕ) (p : PlacedSeg) → Contains (take to (drop from ps)) p → Contains ps p
part_of ps from to p c =
    subst (λ (l : List PlacedSeg). Contains l p) (take-append-drop from ps)
    (Contains-append_right (take from ps) (drop from ps) p
    (subst (λ (l : List PlacedSeg). Contains l p) (take-append-drop to (drop from ps))
    (Contains-append_left (take to (drop from ps)) (drop to (drop from ps)) p c)))

abbrev IsBetween : List ℕ → List PlacedSeg → (from to : ℕ) → Type 0
IsBetween label ps from to =
    (from ≤ length ps)
    × IsPartitionPoint (λ y. before label y ≡ true) (λ y. before label y ≡ false) ps from
    × IsPartitionPoint (λ y. not_behind label y ≡ true) (λ y. not_behind label y ≡ false) (drop from ps) to

in_part : (label : List ℕ) (ps : List PlacedSeg) (from to : ℕ) (p : PlacedSeg) → IsBetween label ps from to
    → is_use label (placed_view p) ≡ true → Contains ps p → Contains (take to (drop from ps)) p
in_part label ps from to p is u c =
    let at = at_label label p u in
    elim (Contains-append_cases (take from ps) (drop from ps) p
    (subst (λ (l : List PlacedSeg). Contains l p) (sym (take-append-drop from ps)) c)) [
      | inl e ↦ absurd (not_before (order_to label p) at (up_to (λ y. before label y ≡ true) ps from p is.0 is.1.0 e))
      | inr e ↦ elim (Contains-append_cases (take to (drop from ps)) (drop to (drop from ps)) p
          (subst (λ (l : List PlacedSeg). Contains l p) (sym (take-append-drop to (drop from ps))) e)) [
            | inl f ↦ f
            | inr f ↦ absurd (not_past (order_to label p) at (from_on (λ y. not_behind label y ≡ false) (drop from ps) to p is.2.1 f))
          ]
    ]

pub between : (label : List ℕ) (ps : List PlacedSeg) (from to : ℕ) → IsBetween label ps from to
    → HaveSameUses label (placed_views (take to (drop from ps))) (placed_views ps)
between label ps from to is p u = (
  λ c. let r = from_map placed_view (take to (drop from ps)) p c in
      subst (Contains (placed_views ps)) r.2 (in_map placed_view ps r.0 (part_of ps from to r.0 r.1)),
  λ c. let r = from_map placed_view ps p c in
      subst (Contains (placed_views (take to (drop from ps)))) r.2 (in_map placed_view (take to (drop from ps)) r.0
      (in_part label ps from to r.0 is (subst (λ (y : PlacedSegment). is_use label y ≡ true) (sym r.2) u) r.1)),
)

-- what is left of a list, as code has it
pub rest_of : (ps : List PlacedSeg) (from : ℕ) → take (length ps - from) (drop from ps) ≡ drop from ps
rest_of ps from =
    let n : length (drop from ps) ≡ length ps - from = length-drop from ps in take_all (length ps - from) (drop from ps) (omega arith)
