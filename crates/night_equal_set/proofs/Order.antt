-- The order of faults.
use Rattle.std.proofs.Common.{◌≡◌, ◌↔◌, ◌⊎◌, inl, inr, ℕ, zero, suc, ◌≤◌, List, [], ◌∷◌, ◌++◌, Option, Some, None, Bool, true, false}
use Rattle.std.proofs.Common.{refl, sym, ap, ◌∙◌, subst, arith}
use Rattle.std.specs.Prelude.{fold, cond, nat_lt, ◌==◌}
use Rattle.std.specs.List.{AllByRecursion, Contains}
use Rattle.std.specs.List.Sorted.{IsStrictlySortedBy}
use Rattle.std.specs.Cmp.{IsTotalOrder}
use Rattle.std.proofs.lemmas.Bool.Decides.{nat_tests}
use Rattle.std.specs.Cmp.Lexicographic.{on_texts, slice_cmp}
use Rattle.std.specs.Ordering.{nat_cmp, match_ordering, ordering_reverse, ordering_then}
use Rattle.std.specs.declared.cmp.Ordering.{Ordering}
use Rattle.std.specs.declared.cmp.Ordering.TheVariants.{Less, Equal, Greater}
use Rattle.hub_kinds.specs.declared.fault.Fault.{Fault}
use Rattle.hub_kinds.specs.declared.fault.ElemFault.{ElemFault}
use Rattle.hub_kinds.specs.Words.{AreRising, order_by, segment_rank, element_rank, elem_key}
use Rattle.hub_kinds.specs.Words as old
use Rattle.night_definition.specs.Codes as room
use Rattle.night_definition.specs.Codes.{ik304_of, ik403_of}
use Rattle.night_definition.specs.Sets.{with_fault}
use Rattle.night_equal_set.specs.Order.{IsNumbered, IsPlain, OrdersAreOne, FaultsRise}
use Rattle.night_equal_set.proofs.SetCodes.{segment_rank_is, element_rank_is}

-- what an element's fault adds to the key
abbrev added : Option ElemFault → List ℕ
added None = []
added (Some e) = e.element ∷ e.component ∷ e.repetition ∷ (ik403_of e.code).1 ∷ []

key_with : (f : Fault) (o : Option ElemFault) → room.key_of (record f { elem = o }) ≡ f.position ∷ (ik304_of f.code).1 ∷ f.slot ∷ added o
key_with f None = refl
key_with f (Some e) = refl

key_is : (f : Fault) → room.key_of f ≡ f.position ∷ segment_rank f.code ∷ f.slot ∷ added f.elem
key_is f = key_with f f.elem ∙ ap (λ r. f.position ∷ r ∷ f.slot ∷ added f.elem) (segment_rank_is f.code)

less : (n : ℕ) → 1 ≤ n → nat_cmp 0 n ≡ Less
less n is =
    let below : nat_lt 0 n ≡ true = grind (arith, nat_tests) in
    ap (λ b. cond b Less (cond (0 == n) Equal Greater)) below

more : (n : ℕ) → 1 ≤ n → nat_cmp n 0 ≡ Greater
more n is =
    let below : nat_lt n 0 ≡ false = grind (arith, nat_tests) in
    let other : (n == 0) ≡ false = grind (arith, nat_tests) in
    ap (λ b. cond b Less (cond (n == 0) Equal Greater)) below ∙ ap (λ b. cond b Equal Greater) other

added_is : (o p : Option ElemFault) → IsNumbered o → IsNumbered p
    → slice_cmp nat_cmp (added o) (added p) ≡ slice_cmp nat_cmp (elem_key o) (elem_key p)
added_is None None is too = refl
added_is None (Some e) is too =
    ap (λ r. ordering_then r (slice_cmp nat_cmp (0 ∷ 0 ∷ 0 ∷ []) (e.component ∷ e.repetition ∷ element_rank e.code ∷ [])))
    (sym (less e.element too))
added_is (Some e) None is too =
    ap (λ r. ordering_then r (slice_cmp nat_cmp (e.component ∷ e.repetition ∷ element_rank e.code ∷ []) (0 ∷ 0 ∷ 0 ∷ [])))
    (sym (more e.element is))
added_is (Some e) (Some g) is too =
    ap (λ r. slice_cmp nat_cmp (e.element ∷ e.component ∷ e.repetition ∷ r ∷ []) (added (Some g))) (element_rank_is e.code)
    ∙ ap (λ r. slice_cmp nat_cmp (elem_key (Some e)) (g.element ∷ g.component ∷ g.repetition ∷ r ∷ [])) (element_rank_is g.code)

pub orders : OrdersAreOne
orders x y is too =
    ap (λ k. slice_cmp nat_cmp k (room.key_of y)) (key_is x)
    ∙ ap (λ k. slice_cmp nat_cmp (x.position ∷ segment_rank x.code ∷ x.slot ∷ added x.elem) k) (key_is y)
    ∙ ap (λ r. ordering_then (nat_cmp x.position y.position) (ordering_then (nat_cmp (segment_rank x.code) (segment_rank y.code))
    (ordering_then (nat_cmp x.slot y.slot) r))) (added_is x.elem y.elem is too)

abbrev pub order : Fault → Fault → Ordering
order = order_by room.key_of

pub total : IsTotalOrder order
total = on_texts room.key_of

-- rising, by the definition's keys
abbrev pub Rising : List Fault → Type 0
Rising [] = Unit {0}
Rising (x ∷ xs) = AllByRecursion (λ y. order x y ≡ Less) xs × Rising xs

pub all_with : (P : Fault → Type 0) (xs : List Fault) (f : Fault) → AllByRecursion P xs → P f → AllByRecursion P (with_fault xs f)
all_with P [] f all is = (is, tt)
all_with P (x ∷ xs) f all is = by (order f x) (all_with P xs f all.1 is)
  where
    by : (o : Ordering) → AllByRecursion P (with_fault xs f) → AllByRecursion P
        (match_ordering o (f ∷ x ∷ xs) (x ∷ xs) (x ∷ with_fault xs f))
    by Less rest = (is, all)
    by Equal rest = all
    by Greater rest = (all.0, rest)

further : (f x : Fault) (xs : List Fault) → order f x ≡ Less → AllByRecursion (λ y. order x y ≡ Less) xs
    → AllByRecursion (λ y. order f y ≡ Less) xs
further f x [] is all = tt
further f x (y ∷ xs) is all = (total.trans f x y is all.0, further f x xs is all.1)

pub rising_with : (xs : List Fault) (f : Fault) → Rising xs → Rising (with_fault xs f)
rising_with [] f up = (tt, tt)
rising_with (x ∷ xs) f up = by (order f x) refl (rising_with xs f up.1)
  where
    by : (o : Ordering) → order f x ≡ o → Rising (with_fault xs f) → Rising (match_ordering o (f ∷ x ∷ xs) (x ∷ xs) (x ∷ with_fault xs f))
    by Less is rest = ((is, further f x xs is up.0), up)
    by Equal is rest = up
    by Greater is rest = (all_with (λ y. order x y ≡ Less) xs f up.0 (total.antisymm x f ∙ ap ordering_reverse is), rest)

rising_all : (acc xs : List Fault) → Rising acc → Rising (fold with_fault acc xs)
rising_all acc [] up = up
rising_all acc (x ∷ xs) up = rising_all (with_fault acc x) xs (rising_with acc x up)

plain_all : (acc xs : List Fault) → AllByRecursion IsPlain acc → AllByRecursion IsPlain xs
    → AllByRecursion IsPlain (fold with_fault acc xs)
plain_all acc [] all each = all
plain_all acc (x ∷ xs) all each = plain_all (with_fault acc x) xs (all_with IsPlain acc x all each.0) each.1

by_old : (x : Fault) (xs : List Fault) → IsPlain x → AllByRecursion IsPlain xs → AllByRecursion (λ y. order x y ≡ Less) xs
    → AllByRecursion (λ y. order_by old.key_of x y ≡ Less) xs
by_old x [] is each all = tt
by_old x (y ∷ xs) is each all = (sym (orders x y is each.0) ∙ all.0, by_old x xs is each.1 all.1)

risen : (xs : List Fault) → AllByRecursion IsPlain xs → Rising xs → AreRising xs
unfolding IsStrictlySortedBy
risen [] each up = tt
risen (x ∷ xs) each up = (by_old x xs each.0 each.1 up.0, risen xs each.1 up.1)

pub faults_rise : FaultsRise
faults_rise xs each = risen (fold with_fault [] xs) (plain_all [] xs tt each) (rising_all [] xs tt)
