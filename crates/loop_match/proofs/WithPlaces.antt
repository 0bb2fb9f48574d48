-- The placed segments are those of the body that have a place which leads to a slot, and rise by position.
use Rattle.std.proofs.Common.{◌≡◌, ◌⊎◌, inl, inr, ℕ, zero, suc, ◌+◌, ◌<◌, ◌≤◌, List, [], ◌∷◌, ◌++◌, length, Option, Some, None}
use Rattle.std.proofs.Common.{refl, sym, ap, subst, ◌∙◌, arith}
use Rattle.std.specs.Prelude.{option_map, slice_index_or}
use Rattle.std.specs.List.{Contains, slice_get}
use Rattle.std.proofs.lemmas.Bool.{cases_lt}
use Rattle.std.proofs.lemmas.List.Elements.{Contains-append_left, Contains-push}
use Rattle.std.proofs.lemmas.Option.{slice_get_within, get_or_from_slice_get, slice_get-get_or}
use Rattle.guide_tree.specs.declared.slot.Slot.{Slot}
use Rattle.guide_tree.specs.Words.{Trees, Segment, Place, slot_at}
use Rattle.loop_match.specs.LoopIds.{loop_id_of}
use Rattle.loop_match.specs.PlacedSegments.{PlacedSegment, placed_by, placed_at, with_placed, placed_among_first, placed_segments}
use Rattle.loop_match.specs.PlacedSegments.{IsPlacedAt, AreThoseWithPlaces, AreInOrder}
use Rattle.loop_match.proofs.Standing.{stood, from_with_placed, position_of}

got : (given : List (Option Place)) (i : ℕ) (q : Place) → slice_index_or given i None ≡ Some q → slice_get given i ≡ Some (Some q)
got [] i q e = cc
got (x ∷ xs) zero q e = ap Some e
got (x ∷ xs) (suc i) q e = got xs i q e

-- a slot at a place makes the placed segment, and nothing else does
by_slot : (ts : Trees) (body : List Segment) (given : List (Option Place)) (i : ℕ) (q : Place) (o : Option Slot) (p : PlacedSegment)
    → i < length body → slice_get given i ≡ Some (Some q) → slot_at ts q ≡ o
    → option_map (stood i (slice_index_or body i []) (loop_id_of ts q)) o ≡ Some p → IsPlacedAt ts body given i p
by_slot ts body given i q None p l g e h = cc
by_slot ts body given i q (Some slot) p l g e h =
    let m : stood i (slice_index_or body i []) (loop_id_of ts q) slot ≡ p = cc in
    record {
      place = q;
      given_place = g;
      segment = slice_get-get_or body i [] l ∙ ap Some (ap (λ (x : PlacedSegment). x.segment) m);
      slot = e ∙ ap Some (ap (λ (x : PlacedSegment). x.slot) m);
      position = sym (ap (λ (x : PlacedSegment). x.position) m);
      loop_id = sym (ap (λ (x : PlacedSegment). x.loop_id) m);
    }

is_placed : (ts : Trees) (body : List Segment) (given : List (Option Place)) (i : ℕ) (o : Option Place) (p : PlacedSegment)
    → i < length body → slice_index_or given i None ≡ o → placed_by ts i (slice_index_or body i []) o ≡ Some p
    → IsPlacedAt ts body given i p
is_placed ts body given i None p l e h = let k : None ≡ Some p = h in cc
is_placed ts body given i (Some q) p l e h = by_slot ts body given i q (slot_at ts q) p l (got given i q e) refl h

same_record : (i : ℕ) (s : Segment) (loop_id : List ℕ) (slot : Slot) (p : PlacedSegment) → s ≡ p.segment → p.position ≡ i + 2
    → p.loop_id ≡ loop_id → slot ≡ p.slot → stood i s loop_id slot ≡ p
same_record i s loop_id slot p a b c d =
    ap (λ (x : Segment). stood i x loop_id slot) a
    ∙ ap (λ (x : List ℕ). stood i p.segment x slot) (sym c)
    ∙ ap (λ (x : Slot). stood i p.segment p.loop_id x) d
    ∙ ap (λ (n : ℕ). record { position = n; segment = p.segment; slot = p.slot; loop_id = p.loop_id }) (sym b)

is_there : (ts : Trees) (body : List Segment) (given : List (Option Place)) (i : ℕ) (p : PlacedSegment) → IsPlacedAt ts body given i p
    → placed_at ts body given i ≡ Some p
is_there ts body given i p at =
    let s : Segment = slice_index_or body i [] in
    let e : s ≡ p.segment = get_or_from_slice_get body i p.segment [] at.segment in
    ap (placed_by ts i s) (get_or_from_slice_get given i (Some at.place) None at.given_place)
    ∙ ap (option_map (stood i s (loop_id_of ts at.place))) at.slot
    ∙ ap Some (same_record i s (loop_id_of ts at.place) p.slot p e at.position at.loop_id refl)

kept : (before : List PlacedSegment) (o : Option PlacedSegment) (p : PlacedSegment) → Contains before p → Contains (with_placed before o) p
kept before None p c = c
kept before (Some x) p c = Contains-append_left before (x ∷ []) p c

added : (before : List PlacedSegment) (o : Option PlacedSegment) (p : PlacedSegment) → o ≡ Some p → Contains (with_placed before o) p
added before o p e = subst (λ (x : Option PlacedSegment). Contains (with_placed before x) p) (sym e) (Contains-push before p)

has_first : (ts : Trees) (body : List Segment) (given : List (Option Place)) (n i : ℕ) (p : PlacedSegment) → i < n
    → placed_at ts body given i ≡ Some p → Contains (placed_among_first ts body given n) p
has_first ts body given zero i p l e = absurd (omega arith)
has_first ts body given (suc n) i p l e =
    let before : List PlacedSegment = placed_among_first ts body given n in
    elim (cases_lt i n) [
      | inl b ↦ kept before (placed_at ts body given n) p (has_first ts body given n i p b e)
      | inr s ↦
          let same : n ≡ i = omega (arith, l, s) in
          added before (placed_at ts body given n) p (ap (placed_at ts body given) same ∙ e)
    ]

found : (ts : Trees) (body : List Segment) (given : List (Option Place)) (n : ℕ) (p : PlacedSegment) → n ≤ length body
    → Contains (placed_among_first ts body given n) p → (index : ℕ) × IsPlacedAt ts body given index p
found ts body given zero p l c = let none : c.0 < 0 = c.1 in absurd (omega arith)
found ts body given (suc n) p l c = elim (from_with_placed (placed_among_first ts body given n) (placed_at ts body given n) p c) [
  | inl e ↦ found ts body given n p (omega (arith, l)) e
  | inr e ↦ (n, is_placed ts body given n (slice_index_or given n None) p (omega (arith, l)) refl e)
]

pub members : (ts : Trees) (body : List Segment) (given : List (Option Place)) → AreThoseWithPlaces ts body given
members ts body given p = (
  λ c. found ts body given (length body) p (omega arith) c,
  λ it. has_first ts body given (length body) it.0 p (slice_get_within body it.0 p.segment it.1.segment)
      (is_there ts body given it.0 p it.1),
)

of_pushed : (xs : List PlacedSegment) (x p : PlacedSegment) (j : ℕ) → slice_get (xs ++ x ∷ []) j ≡ Some p
    → (slice_get xs j ≡ Some p) ⊎ ((j ≡ length xs) × (x ≡ p))
of_pushed [] x p zero e = let m : x ≡ p = cc in inr (refl, m)
of_pushed [] x p (suc j) e = cc
of_pushed (y ∷ ys) x p zero e = inl e
of_pushed (y ∷ ys) x p (suc j) e = elim (of_pushed ys x p j e) [
  | inl h ↦ inl h
  | inr h ↦ let k : suc j ≡ length (y ∷ ys) = omega (arith, h.0) in inr (k, h.1)
]

-- they rise, and all stand before a position
record Rise (placed : List PlacedSegment) (end : ℕ) : Type 0 where
  below : (j : ℕ) (p : PlacedSegment) → slice_get placed j ≡ Some p → p.position < end
  order : AreInOrder placed

one_more : (placed : List PlacedSegment) (x : PlacedSegment) (n : ℕ) → Rise placed (n + 2) → x.position ≡ n + 2
    → Rise (placed ++ x ∷ []) (suc n + 2)
one_more placed x n r at = record {
  below =
      λ j p e. elim (of_pushed placed x p j e) [
        | inl h ↦ let l : p.position < n + 2 = r.below j p h in omega (arith, l)
        | inr h ↦ let same : x.position ≡ p.position = ap (λ (y : PlacedSegment). y.position) h.1 in omega (arith, same, at)
      ];
  order =
      λ j k p q e f l. elim (of_pushed placed x q k f) [
        | inl h ↦ earlier j k p q e h l
        | inr h ↦ last j k p q h.0 h.1 l e
      ];
}
  where
    earlier : (j k : ℕ) (p q : PlacedSegment) → slice_get (placed ++ x ∷ []) j ≡ Some p → slice_get placed k ≡ Some q → j < k
        → p.position < q.position
    earlier j k p q e f l =
        let within : k < length placed = slice_get_within placed k q f in
        elim (of_pushed placed x p j e) [ inl h ↦ r.order j k p q h f l | inr h ↦ let n : j ≡ length placed = h.0 in absurd (omega arith) ]

    last : (j k : ℕ) (p q : PlacedSegment) → k ≡ length placed → x ≡ q → j < k → slice_get (placed ++ x ∷ []) j ≡ Some p
        → p.position < q.position
    last j k p q ends m l e =
        let same : x.position ≡ q.position = ap (λ (y : PlacedSegment). y.position) m in
        elim (of_pushed placed x p j e) [
          | inl h ↦ let b : p.position < n + 2 = r.below j p h in omega arith
          | inr h ↦ let same_end : j ≡ length placed = h.0 in absurd (omega arith)
        ]

one_by : (placed : List PlacedSegment) (o : Option PlacedSegment) (n : ℕ) → Rise placed (n + 2)
    → ((p : PlacedSegment) → o ≡ Some p → p.position ≡ n + 2) → Rise (with_placed placed o) (suc n + 2)
one_by placed None n r at = record {
  below = λ j p e. let l : p.position < n + 2 = r.below j p e in omega (arith, l);
  order = r.order;
}
one_by placed (Some x) n r at = one_more placed x n r (at x refl)

rise : (ts : Trees) (body : List Segment) (given : List (Option Place)) (n : ℕ) → Rise (placed_among_first ts body given n) (n + 2)
rise ts body given zero = record { below = λ j p e. cc; order = λ j k p q e f l. cc }
rise ts body given (suc n) =
    one_by (placed_among_first ts body given n) (placed_at ts body given n) n (rise ts body given n)
    (λ p e. position_of ts n (slice_index_or body n []) (slice_index_or given n None) p e)

pub order : (ts : Trees) (body : List Segment) (given : List (Option Place)) → AreInOrder (placed_segments ts body given)
order ts body given = (rise ts body given (length body)).order
