-- Faults put in their order: if no two have the same key, all are kept.
use Rattle.std.proofs.Common.{◌≡◌, ◌⊎◌, inl, inr, List, [], ◌∷◌, refl, sym, ap, subst, ◌∙◌}
use Rattle.std.specs.BTreeSet.{insert_key}
use Rattle.std.specs.Cmp.{IsTotalOrder}
use Rattle.std.specs.Cmp.Lexicographic.{on_texts}
use Rattle.std.specs.List.{AllByRecursion}
use Rattle.std.specs.List.Sorted.{IsStrictlySortedBy}
use Rattle.std.specs.Ordering.{is_eq, match_ordering, ordering_reverse}
use Rattle.std.specs.declared.cmp.Ordering.{Ordering}
use Rattle.std.specs.declared.cmp.Ordering.TheVariants.{Less, Equal, Greater}
use Rattle.std.proofs.lemmas.Map.Lookups.{exact_bytes}
use Rattle.std.proofs.lemmas.Map.Views.{tells_apart}
use Rattle.hub_kinds.specs.declared.fault.Fault.{Fault}
use Rattle.hub_kinds.specs.Words.{AreRising, key_of, order_by}
use Rattle.guide_tree.proofs.ForAbove.{In}

abbrev order : Fault → Fault → Ordering
order = order_by key_of

total : IsTotalOrder order
total = on_texts key_of

abbrev pub in_order : List Fault → List Fault
in_order [] = []
in_order (f ∷ fs) = insert_key order (in_order fs) f

-- what holds of all faults of a list and of one more holds once that one is put in
all_with : (P : Fault → Type 0) (xs : List Fault) (f : Fault) → AllByRecursion P xs → P f → AllByRecursion P (insert_key order xs f)
all_with P [] f all is = (is, tt)
all_with P (x ∷ xs) f all is = by (order f x) (all_with P xs f all.1 is)
  where
    by : (o : Ordering) → AllByRecursion P (insert_key order xs f)
        → AllByRecursion P (match_ordering o (f ∷ x ∷ xs) (x ∷ xs) (x ∷ insert_key order xs f))
    by Less rest = (is, all)
    by Equal rest = all
    by Greater rest = (all.0, rest)

further : (f x : Fault) (xs : List Fault) → order f x ≡ Less → AllByRecursion (λ y. order x y ≡ Less) xs
    → AllByRecursion (λ y. order f y ≡ Less) xs
further f x [] is all = tt
further f x (y ∷ xs) is all = (total.trans f x y is all.0, further f x xs is all.1)

rising_with : (xs : List Fault) (f : Fault) → AreRising xs → AreRising (insert_key order xs f)
unfolding IsStrictlySortedBy
rising_with [] f up = (tt, tt)
rising_with (x ∷ xs) f up = by (order f x) refl (rising_with xs f up.1)
  where
    by : (o : Ordering) → order f x ≡ o → AreRising (insert_key order xs f)
        → AreRising (match_ordering o (f ∷ x ∷ xs) (x ∷ xs) (x ∷ insert_key order xs f))
    by Less is rest = ((is, further f x xs is up.0), up)
    by Equal is rest = up
    by Greater is rest = (all_with (λ y. order x y ≡ Less) xs f up.0 (total.antisymm x f ∙ ap ordering_reverse is), rest)

pub rising : (fs : List Fault) → AreRising (in_order fs)
unfolding IsStrictlySortedBy
rising [] = tt
rising (f ∷ fs) = rising_with (in_order fs) f (rising fs)

-- only that fault is new
from_with : (xs : List Fault) (f h : Fault) → In (insert_key order xs f) h → (f ≡ h) ⊎ In xs h
from_with [] f h i = i
from_with (x ∷ xs) f h i = by (order f x) i (from_with xs f h)
  where
    by : (o : Ordering) → In (match_ordering o (f ∷ x ∷ xs) (x ∷ xs) (x ∷ insert_key order xs f)) h
        → (In (insert_key order xs f) h → (f ≡ h) ⊎ In xs h) → (f ≡ h) ⊎ (x ≡ h) ⊎ In xs h
    by Less i rest = i
    by Equal i rest = inr i
    by Greater (inl e) rest = inr (inl e)
    by Greater (inr i) rest = elim (rest i) [ inl e ↦ inl e | inr j ↦ inr (inr j) ]

kept_with : (xs : List Fault) (f h : Fault) → In xs h → In (insert_key order xs f) h
kept_with [] f h i = absurd i
kept_with (x ∷ xs) f h i = by (order f x) (kept_with xs f h) i
  where
    by : (o : Ordering) → (In xs h → In (insert_key order xs f) h) → (x ≡ h) ⊎ In xs h
        → In (match_ordering o (f ∷ x ∷ xs) (x ∷ xs) (x ∷ insert_key order xs f)) h
    by Less rest i = inr i
    by Equal rest i = i
    by Greater rest (inl e) = inl e
    by Greater rest (inr i) = inr (rest i)

same_key : (f x : Fault) → order f x ≡ Equal → key_of f ≡ key_of x
same_key f x e = tells_apart exact_bytes (key_of f) (key_of x) (ap is_eq e)

-- then the fault is in the list, or another was there with its key
there_with : (xs : List Fault) (f : Fault) → In (insert_key order xs f) f ⊎ ((x : Fault) × In xs x × (key_of x ≡ key_of f))
there_with [] f = inl (inl refl)
there_with (x ∷ xs) f = by (order f x) refl (there_with xs f)
  where
    by : (o : Ordering) → order f x ≡ o → In (insert_key order xs f) f ⊎ ((y : Fault) × In xs y × (key_of y ≡ key_of f))
        → In (match_ordering o (f ∷ x ∷ xs) (x ∷ xs) (x ∷ insert_key order xs f)) f
        ⊎ ((y : Fault) × In (x ∷ xs) y × (key_of y ≡ key_of f))
    by Less is rest = inl (inl refl)
    by Equal is rest = inr (x, inl refl, sym (same_key f x is))
    by Greater is (inl i) = inl (inr i)
    by Greater is (inr (y, i, k)) = inr (y, inr i, k)

pub from_order : (fs : List Fault) (h : Fault) → In (in_order fs) h → In fs h
from_order [] h i = i
from_order (f ∷ fs) h i = elim (from_with (in_order fs) f h i) [ inl e ↦ inl e | inr j ↦ inr (from_order fs h j) ]

-- no two different faults have the same key
abbrev pub AreKeyed : List Fault → Type 0
AreKeyed fs = (f h : Fault) → In fs f → In fs h → key_of f ≡ key_of h → f ≡ h

pub into_order : (fs : List Fault) → AreKeyed fs → (h : Fault) → In fs h → In (in_order fs) h
into_order [] keyed h i = i
into_order (f ∷ fs) keyed h (inr i) =
    kept_with (in_order fs) f h (into_order fs (λ x y a b k. keyed x y (inr a) (inr b) k) h i)
into_order (f ∷ fs) keyed h (inl e) = subst (In (insert_key order (in_order fs) f)) e (elim (there_with (in_order fs) f) [
  | inl i ↦ i
  | inr (y, i, k) ↦ kept_with (in_order fs) f f
      (subst (In (in_order fs)) (keyed y f (inr (from_order fs y i)) (inl refl) k) i)
])
