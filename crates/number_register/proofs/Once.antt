-- A place that wasn't recorded before is recorded once, and no other more often.
use Rattle.std.proofs.Common.{◌≡◌, ℕ, ◌+◌, inl, inr, Bool, true, false, ◌||◌, List, [], ◌∷◌, ◌++◌, if◌then◌else◌, refl, ap, sym, ◌∙◌, arith}
use Rattle.std.proofs.Common.{true≢false}
use Rattle.std.specs.Prelude.{Contains}
use Rattle.std.proofs.lemmas.Bool.{cases_Bool}
use Rattle.std.proofs.lemmas.Map.Views.{Contains-from_any}
use Rattle.hub_kinds.specs.declared.place.Place.{Place}
use Rattle.work_core.specs.Complete.{AreOnce, times_place}
use Rattle.work_core.specs.Core.{same_place, was_recorded}
use Rattle.number_register.proofs.ForAbove.{in_cons, no_member}
use Rattle.number_register.proofs.Slotting.{other_stays, own_is, same_by, same_itself}

abbrev one_if_true : Bool → ℕ
one_if_true b = if◌then◌else◌ {A = ℕ} b 1 0

times_more : (recorded : List Place) (q p : Place)
    → times_place q (recorded ++ p ∷ []) ≡ times_place q recorded + one_if_true (same_place q p)
times_more [] q p = omega arith
times_more (r ∷ rs) q p = let h = times_more rs q p in omega arith

or_true_right : (b : Bool) → (b || true) ≡ true
or_true_right true = refl
or_true_right false = refl

pub once_more : (recorded : List Place) (p : Place) → was_recorded recorded p ≡ false → AreOnce recorded recorded
    → AreOnce (recorded ++ p ∷ []) (recorded ++ p ∷ [])
once_more recorded p fresh once q = elim (cases_Bool (same_place q p)) [
  | inl e ↦
      let none : times_place q recorded ≡ 0 = once q ∙ ap one_if_true (ap (was_recorded recorded) (same_by q p e) ∙ fresh) in
      let one : times_place q (recorded ++ p ∷ []) ≡ 0 + 1 =
      times_more recorded q p ∙ ap (λ (n : ℕ). n + one_if_true (same_place q p)) none ∙ ap (λ (b : Bool). 0 + one_if_true b) e in
      one ∙ ap one_if_true (sym (own_is recorded p q e))
  | inr e ↦
      let same : times_place q (recorded ++ p ∷ []) ≡ times_place q recorded + 0 =
      times_more recorded q p ∙ ap (λ (b : Bool). times_place q recorded + one_if_true b) e in
      let stays = ap one_if_true (other_stays recorded p q e) in
      let was = once q in omega arith
]

pub none_once : AreOnce [] []
none_once q = refl

was_contained : (places : List Place) (p : Place) → Contains places p → was_recorded places p ≡ true
was_contained [] p h = absurd (no_member p h)
was_contained (q ∷ qs) p h = elim (in_cons q qs p h) [
  | inl e ↦ ap (λ (b : Bool). b || was_recorded qs p) (ap (same_place p) (sym e) ∙ same_itself p)
  | inr e ↦ ap (λ (b : Bool). same_place p q || b) (was_contained qs p e) ∙ or_true_right (same_place p q)
]

-- of a full register
pub all_once : (places recorded : List Place) → AreOnce recorded recorded
    → ((p : Place) → was_recorded recorded p ≡ true → Contains places p)
    → ((p : Place) → Contains places p → was_recorded recorded p ≡ true) → AreOnce places recorded
all_once places recorded once listed full p = elim (cases_Bool (was_recorded recorded p)) [
  | inl e ↦ once p ∙ ap one_if_true (e ∙ sym (was_contained places p (listed p e)))
  | inr e ↦ elim (cases_Bool (was_recorded places p)) [
    | inl h ↦ absurd (true≢false (sym (full p (Contains-from_any same_by p places h)) ∙ e))
    | inr h ↦ once p ∙ ap one_if_true (e ∙ sym h)
  ]
]

-- one more place, and those before it
pub own_there : (recorded : List Place) (p : Place) → was_recorded (recorded ++ p ∷ []) p ≡ true
own_there recorded p = own_is recorded p p (same_itself p)

pub still_there : (recorded : List Place) (q p : Place) → was_recorded recorded p ≡ true → was_recorded (recorded ++ q ∷ []) p ≡ true
still_there recorded q p h = elim (cases_Bool (same_place p q)) [
  | inl e ↦ own_is recorded q p e
  | inr e ↦ other_stays recorded q p e ∙ h
]
