-- One more record: the slot of its place gets its number, and the others stay.
use Rattle.std.proofs.Common.{◌≡◌, ◌≢◌, ℕ, zero, suc, ◌+◌, ◌==◌, ◌&&◌, ◌||◌, ◌⊎◌, inl, inr, Bool, true, false, List, [], ◌∷◌, ◌++◌}
use Rattle.std.proofs.Common.{Option, Some, None, refl, sym, ap, subst, ◌∙◌, true≢false, arith}
use Rattle.std.specs.Prelude.{slice_get, slice_set, is_some, option_map}
use Rattle.std.proofs.lemmas.Bool.{cases_eq, eq-eqb, eqb-true, ne_eqb}
use Rattle.std.proofs.lemmas.List.Folds.{list_any-append}
use Rattle.std.proofs.lemmas.Option.{none-some}
use Rattle.hub_kinds.specs.declared.place.Place.{Place}
use Rattle.work_core.specs.Core.{same_place, was_recorded}
use Rattle.number_register.specs.Slots.{AreSlots}
use Rattle.number_register.specs.Slots.{slot}

or_false : (b c : Bool) → c ≡ false → (b || (c || false)) ≡ b
or_false true c e = refl
or_false false c e = ap (λ (d : Bool). d || false) e

or_true : (b c : Bool) → c ≡ true → (b || (c || false)) ≡ true
or_true true c e = refl
or_true false c e = ap (λ (d : Bool). d || false) e

more : (recorded : List Place) (p q : Place) → was_recorded (recorded ++ p ∷ []) q ≡ (was_recorded recorded q || (same_place q p || false))
more recorded p q = list_any-append (same_place q) recorded (p ∷ [])

pub other_stays : (recorded : List Place) (p q : Place) → same_place q p ≡ false
    → was_recorded (recorded ++ p ∷ []) q ≡ was_recorded recorded q
other_stays recorded p q e = more recorded p q ∙ or_false (was_recorded recorded q) (same_place q p) e

pub own_is : (recorded : List Place) (p q : Place) → same_place q p ≡ true → was_recorded (recorded ++ p ∷ []) q ≡ true
own_is recorded p q e = more recorded p q ∙ or_true (was_recorded recorded q) (same_place q p) e

and_false : (a b c : Bool) → (a ≡ false) ⊎ ((b ≡ false) ⊎ (c ≡ false)) → (a && (b && c)) ≡ false
and_false false b c h = refl
and_false true false c h = refl
and_false true true false h = refl
and_false true true true (inl h) = h
and_false true true true (inr (inl h)) = h
and_false true true true (inr (inr h)) = h

and_true : (a b c : Bool) → a ≡ true → b ≡ true → c ≡ true → (a && (b && c)) ≡ true
and_true true true true e f g = refl
and_true false b c e f g = e
and_true true false c e f g = f
and_true true true false e f g = g

pub same_itself : (p : Place) → same_place p p ≡ true
same_itself p = and_true (p.isa == p.isa) (p.gs == p.gs) (p.st == p.st) (eq-eqb p.isa p.isa refl) (eq-eqb p.gs p.gs refl)
    (eq-eqb p.st p.st refl)

pub other_isa : (p q : Place) → p.isa ≢ q.isa → same_place p q ≡ false
other_isa p q e = and_false (p.isa == q.isa) (p.gs == q.gs) (p.st == q.st) (inl (ne_eqb p.isa q.isa e))

pub other_gs : (p q : Place) → p.gs ≢ q.gs → same_place p q ≡ false
other_gs p q e = and_false (p.isa == q.isa) (p.gs == q.gs) (p.st == q.st) (inr (inl (ne_eqb p.gs q.gs e)))

pub other_st : (p q : Place) → p.st ≢ q.st → same_place p q ≡ false
other_st p q e = and_false (p.isa == q.isa) (p.gs == q.gs) (p.st == q.st) (inr (inr (ne_eqb p.st q.st e)))

pub up : (a b : ℕ) → a ≢ b → a + 1 ≢ b + 1
up a b h e = h (omega (arith, e))

pub apart : (a : ℕ) → a + 1 ≢ 0
apart a e = omega (arith, e)

pub apart_too : (a : ℕ) → 0 ≢ a + 1
apart_too a e = omega (arith, e)

get_set_same : {A : Type 0} (xs : List A) (i : ℕ) (x y : A) → slice_get xs i ≡ Some y → slice_get (slice_set xs i x) i ≡ Some x
get_set_same [] i x y is = absurd (none-some y is)
get_set_same (a ∷ xs) zero x y is = refl
get_set_same (a ∷ xs) (suc i) x y is = get_set_same xs i x y is

get_set_other : {A : Type 0} (xs : List A) (i j : ℕ) (x : A) → j ≢ i → slice_get (slice_set xs i x) j ≡ slice_get xs j
get_set_other [] i j x h = refl
get_set_other (a ∷ xs) zero zero x h = absurd (h refl)
get_set_other (a ∷ xs) zero (suc j) x h = refl
get_set_other (a ∷ xs) (suc i) zero x h = refl
get_set_other (a ∷ xs) (suc i) (suc j) x h = get_set_other xs i j x (λ e. h (ap suc e))

module _ {K V : Type 0} (read : K → V) (numbers : List V) (at : ℕ → Place) (recorded : List Place) where
  -- slots of other places
  pub slots_stay : (p : Place) (keys : List (Option K)) → ((j : ℕ) → same_place (at j) p ≡ false) → AreSlots read numbers at recorded keys
      → AreSlots read numbers at (recorded ++ p ∷ []) keys
  slots_stay p keys other are j v is = are j v is ∙ ap (λ (b : Bool). Some (slot b v)) (sym (other_stays recorded p (at j) (other j)))

  -- the slot of the place itself
  pub slots_more : (keys : List (Option K)) (i : ℕ) (key : K) (v : V) → slice_get keys i ≡ Some None → slice_get numbers i ≡ Some v
      → read key ≡ v → ((j : ℕ) → j ≢ i → same_place (at j) (at i) ≡ false) → AreSlots read numbers at recorded keys
      → AreSlots read numbers at (recorded ++ at i ∷ []) (slice_set keys i (Some key))
  slots_more keys i key v absent own reads others are j w is = elim (cases_eq j i) [
    | inl e ↦
        let value : w ≡ v = let both : Some w ≡ Some v = sym is ∙ ap (slice_get numbers) e ∙ own in cc in
        ap (λ (n : ℕ). option_map (option_map read) (slice_get (slice_set keys i (Some key)) n)) e
        ∙ ap (option_map (option_map read)) (get_set_same keys i (Some key) None absent)
        ∙ ap (λ (x : V). Some (Some x)) (reads ∙ sym value)
        ∙ ap (λ (b : Bool). Some (slot b w)) (sym (own_is recorded (at i) (at j) (ap (λ (n : ℕ). same_place (at n) (at i)) e
        ∙ same_itself (at i))))
    | inr n ↦
        ap (option_map (option_map read)) (get_set_other keys i j (Some key) n)
        ∙ are j w is
        ∙ ap (λ (b : Bool). Some (slot b w)) (sym (other_stays recorded (at i) (at j) (others j n)))
  ]

  cell_absent : (x : Option (Option K)) (v : V) (b : Bool) → b ≡ false → option_map (option_map read) x ≡ Some (slot b v) → x ≡ Some None
  cell_absent None v b e h = absurd (none-some (slot b v) h)
  cell_absent (Some None) v b e h = refl
  cell_absent (Some (Some k)) v false e h = let s : Some (read k) ≡ None = cc in absurd (none-some (read k) (sym s))
  cell_absent (Some (Some k)) v true e h = absurd (true≢false e)

  -- there is no key where the place isn't recorded
  pub slot_absent : (keys : List (Option K)) (j : ℕ) (v : V) → AreSlots read numbers at recorded keys → slice_get numbers j ≡ Some v
      → was_recorded recorded (at j) ≡ false → slice_get keys j ≡ Some None
  slot_absent keys j v are is e = cell_absent (slice_get keys j) v (was_recorded recorded (at j)) e (are j v is)

  cell_there : (x : Option (Option K)) (v : V) (b : Bool) → option_map (option_map read) x ≡ Some (slot b v)
      → (k : Option K) × (x ≡ Some k) × (is_some k ≡ b)
  cell_there None v b h = absurd (none-some (slot b v) h)
  cell_there (Some None) v false h = (None, refl, refl)
  cell_there (Some None) v true h = let s : None ≡ Some v = cc in absurd (none-some v s)
  cell_there (Some (Some k)) v false h = let s : Some (read k) ≡ None = cc in absurd (none-some (read k) (sym s))
  cell_there (Some (Some k)) v true h = (Some k, refl, refl)

  -- there is a key exactly where the place is recorded
  pub slot_there : (keys : List (Option K)) (j : ℕ) (v : V) → AreSlots read numbers at recorded keys → slice_get numbers j ≡ Some v
      → (k : Option K) × (slice_get keys j ≡ Some k) × (is_some k ≡ was_recorded recorded (at j))
  slot_there keys j v are is = cell_there (slice_get keys j) v (was_recorded recorded (at j)) (are j v is)

or_either : (b c : Bool) → (b || (c || false)) ≡ true → (b ≡ true) ⊎ (c ≡ true)
or_either true c e = inl refl
or_either false true e = inr refl
or_either false false e = absurd (true≢false (sym e))

and_each : (a b c : Bool) → (a && (b && c)) ≡ true → (a ≡ true) × (b ≡ true) × (c ≡ true)
and_each true true true e = (refl, refl, refl)
and_each false b c e = absurd (true≢false (sym e))
and_each true false c e = absurd (true≢false (sym e))
and_each true true false e = absurd (true≢false (sym e))

pub same_by : (p q : Place) → same_place p q ≡ true → p ≡ q
same_by p q h =
    let all = and_each (p.isa == q.isa) (p.gs == q.gs) (p.st == q.st) h in
    let x = eqb-true p.isa q.isa all.0 in
    let y = eqb-true p.gs q.gs all.1 in
    let z = eqb-true p.st q.st all.2 in
    λ i. record { isa = x i; gs = y i; st = z i }

-- what holds of each recorded place, and of one more
pub listed_more : (P : Place → Type 0) (recorded : List Place) (p : Place) → ((q : Place) → was_recorded recorded q ≡ true → P q) → P p
    → (q : Place) → was_recorded (recorded ++ p ∷ []) q ≡ true → P q
listed_more P recorded p each own q e = elim (or_either (was_recorded recorded q) (same_place q p) (sym (more recorded p q) ∙ e)) [
  | inl h ↦ each q h
  | inr h ↦ subst P (sym (same_by q p h)) own
]
