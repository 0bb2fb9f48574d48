-- The order of places that are numbered on is that of their numbers.
use Rattle.std.proofs.Common.{◌≡◌, ℕ, ◌+◌, ◌<◌, ◌≤◌, inl, inr, true, false, refl, ap, sym, ◌∙◌, subst, arith}
use Rattle.std.specs.Prelude.{nat_lt}
use Rattle.std.specs.Cmp.{nat_cmp_is}
use Rattle.std.specs.Ordering.{nat_cmp, is_lt, ordering_then}
use Rattle.std.specs.declared.cmp.Ordering.{Ordering}
use Rattle.std.specs.declared.cmp.Ordering.TheVariants.{Less, Equal, Greater}
use Rattle.std.proofs.lemmas.Bool.{cases_Bool, false≢true, ltb-true, ltb-false}
use Rattle.std.proofs.Math.Nat.{eq-or-lt_of_le}
use Rattle.hub_kinds.specs.declared.place.Place.{Place}
use Rattle.env_index.specs.Words.{place_at, is_before}

-- the order of places that differ in one number
less_then : (a b : ℕ) (more : Ordering) → a < b → is_lt (ordering_then (nat_cmp a b) more) ≡ true
less_then a b more h = ap (λ (o : Ordering). is_lt (ordering_then o more)) (sym (nat_cmp_is a b Less h))

same_then : (a : ℕ) (more : Ordering) → ordering_then (nat_cmp a a) more ≡ more
same_then a more = ap (λ (o : Ordering). ordering_then o more) (sym (nat_cmp_is a a Equal refl))

greater_then : (a b : ℕ) (more : Ordering) → b < a → is_lt (ordering_then (nat_cmp a b) more) ≡ false
greater_then a b more h = ap (λ (o : Ordering). is_lt (ordering_then o more)) (sym (nat_cmp_is a b Greater h))

-- at places that are numbered on, the order is that of their numbers
pub record AreInOrder (at : ℕ → Place) : Type 0 where
  pub less : (a b : ℕ) → a < b → is_before (at a) (at b) ≡ true
  pub other : (a b : ℕ) → b ≤ a → is_before (at a) (at b) ≡ false

not_less_then : (a b : ℕ) (more : Ordering) → is_lt more ≡ false → b ≤ a → is_lt (ordering_then (nat_cmp a b) more) ≡ false
not_less_then a b more none h = elim (eq-or-lt_of_le {n = b} {m = a} h) [
  | inl same ↦ subst (λ (k : ℕ). is_lt (ordering_then (nat_cmp a k) more) ≡ false) (sym same)
      (ap is_lt (same_then a more) ∙ none)
  | inr less ↦ greater_then a b more less
]

pub sets_in_order : (isa gs : ℕ) → AreInOrder (λ j. place_at isa gs (j + 1))
sets_in_order isa gs = record {
  less = λ a b h. ap is_lt (same_then isa _ ∙ same_then gs _) ∙ less_then (a + 1) (b + 1) Equal (omega (arith, h));
  other = λ a b h. ap is_lt (same_then isa _ ∙ same_then gs _) ∙ not_less_then (a + 1) (b + 1) Equal refl (omega (arith, h));
}

pub groups_in_order : (isa : ℕ) → AreInOrder (λ k. place_at isa (k + 1) 0)
groups_in_order isa = record {
  less = λ a b h. ap is_lt (same_then isa _) ∙ less_then (a + 1) (b + 1) _ (omega (arith, h));
  other = λ a b h. ap is_lt (same_then isa _) ∙ not_less_then (a + 1) (b + 1) _ refl (omega (arith, h));
}

pub interchanges_in_order : AreInOrder (λ n. place_at (n + 1) 0 0)
interchanges_in_order = record {
  less = λ a b h. less_then (a + 1) (b + 1) _ (omega (arith, h));
  other = λ a b h. not_less_then (a + 1) (b + 1) _ refl (omega (arith, h));
}

pub before_is_less : (at : ℕ → Place) → AreInOrder at → (a b : ℕ) → is_before (at a) (at b) ≡ true → a < b
before_is_less at order a b h = elim (cases_Bool (nat_lt a b)) [
  | inl e ↦ ltb-true a b e
  | inr e ↦ absurd (false≢true (sym (order.other a b (ltb-false a b e)) ∙ h))
]
