-- A key stands twice exactly where sorted values don't strictly rise.
use Rattle.std.proofs.Common.{◌≡◌, ℕ, ◌+◌, ◌<◌, Bool, true, false, not, ◌||◌, List, [], ◌∷◌, length, get_or, refl, sym, ap}
use Rattle.std.proofs.Common.{◌∙◌, true≢false, arith}
use Rattle.std.specs.Ordering.{is_lt, is_eq, ordering_reverse}
use Rattle.std.specs.declared.cmp.Ordering.{Ordering}
use Rattle.std.specs.declared.cmp.Ordering.TheVariants.{Less, Equal, Greater}
use Rattle.std.specs.Cmp.Lexicographic.{on_texts}
use Rattle.std.specs.List.{IsDistinct, IsAllAdjacentAnswer, list_any, AllByRecursion}
use Rattle.std.specs.List.Sorted.{IsPermutation, IsSorted, IsStrictlySortedBy}
use Rattle.std.proofs.lemmas.Bool.{or_parts, true_from_ne_false}
use Rattle.std.proofs.lemmas.Cmp.{eq_by_cmp_equiv}
use Rattle.std.proofs.lemmas.List.Sorted.{IsPermutation-sym, length_permutation}
use Rattle.std.proofs.lemmas.Map.Keys.{sorted_from_all_adjacent, IsDistinct-from_sorted, IsDistinct-IsPermutation, apart_from_distinct}
use Rattle.hub_kinds.specs.Rising.{order_by, IsRisingBy}
use Rattle.hub_kinds.specs.Twice.{has_same_key, has_twice}

none_behind : {A : Type 0} (key : A → List ℕ) (x : A) (xs : List A) → list_any (has_same_key key x) xs ≡ false
    → AllByRecursion (λ y. has_same_key key x y ≡ false) xs
none_behind key x [] h = tt
none_behind key x (y ∷ ys) h =
    let parts = or_parts (has_same_key key x y) (list_any (has_same_key key x) ys) h in (parts.0, none_behind key x ys parts.1)

some_behind : {A : Type 0} (key : A → List ℕ) (x : A) (xs : List A) → AllByRecursion (λ y. has_same_key key x y ≡ false) xs
    → list_any (has_same_key key x) xs ≡ false
some_behind key x [] h = refl
some_behind key x (y ∷ ys) h = ap (λ (b : Bool). b || list_any (has_same_key key x) ys) h.0 ∙ some_behind key x ys h.1

pub distinct_from : {A : Type 0} (key : A → List ℕ) (xs : List A) → has_twice key xs ≡ false → IsDistinct (has_same_key key) xs
unfolding IsDistinct
distinct_from key [] h = tt
distinct_from key (x ∷ xs) h =
    let parts = or_parts (list_any (has_same_key key x) xs) (has_twice key xs) h in
    (none_behind key x xs parts.0, distinct_from key xs parts.1)

pub distinct_to : {A : Type 0} (key : A → List ℕ) (xs : List A) → IsDistinct (has_same_key key) xs → has_twice key xs ≡ false
unfolding IsDistinct
distinct_to key [] h = refl
distinct_to key (x ∷ xs) h =
    ap (λ (b : Bool). b || has_twice key xs) (some_behind key x xs h.0) ∙ distinct_to key xs h.1

less_from : (o : Ordering) → is_lt o ≡ true → o ≡ Less
less_from Less h = refl
less_from Equal h = cc
less_from Greater h = cc

ties : (o p : Ordering) → o ≡ ordering_reverse p → is_lt o ≡ false → is_lt p ≡ false → is_eq o ≡ true
ties o Less e a b = cc
ties o Equal e a b = ap is_eq e
ties o Greater e a b = let less : is_lt o ≡ true = ap is_lt e in absurd (true≢false (sym less ∙ a))

none_twice : {A : Type 0} (key : A → List ℕ) (xs : List A) → length xs ≡ 0 → has_twice key xs ≡ false
none_twice key [] h = refl
none_twice key (x ∷ xs) h = absurd (omega arith)

pub rising_distinct : {A : Type 0} (key : A → List ℕ) (found sorted : List A) → IsPermutation found sorted
    → ((k : ℕ) (d : A) → k + 1 < length sorted → is_lt (order_by key (get_or sorted k d) (get_or sorted (k + 1) d)) ≡ true)
    → has_twice key found ≡ false
rising_distinct key found [] moved rises =
    let none = length_permutation found [] moved in none_twice key found (sym none)
rising_distinct key found (x ∷ xs) moved rises =
    let up = sorted_from_all_adjacent (on_texts key) (x ∷ xs) x (λ k h. less_from _ (rises k x h)) in
    let apart = IsDistinct-from_sorted (order_by key) (x ∷ xs) up in
    distinct_to key found (IsDistinct-IsPermutation (has_same_key key) (eq_by_cmp_equiv (on_texts key)).symm (x ∷ xs) found
    (IsPermutation-sym found (x ∷ xs) moved) apart)

pub level_twice : {A : Type 0} (key : A → List ℕ) (found sorted : List A) → IsPermutation found sorted → IsSorted (order_by key) sorted
    → (k : ℕ) (d : A) → k + 1 < length sorted
    → is_lt (order_by key (get_or sorted k d) (get_or sorted (k + 1) d)) ≡ false → has_twice key found ≡ true
level_twice key found sorted moved up k d within level = true_from_ne_false (has_twice key found) (λ none.
    let apart = IsDistinct-IsPermutation (has_same_key key) (eq_by_cmp_equiv (on_texts key)).symm found sorted moved
    (distinct_from key found none) in
    let other = apart_from_distinct (has_same_key key) sorted k (k + 1) d apart (omega arith) within in
    let same = ties (order_by key (get_or sorted k d) (get_or sorted (k + 1) d))
    (order_by key (get_or sorted (k + 1) d) (get_or sorted k d))
    ((on_texts key).antisymm _ _) level (up k d (omega arith) within) in
    true≢false (sym same ∙ other))

-- what a look at neighbours shows
pub answered : {A : Type 0} (key : A → List ℕ) (found sorted : List A) → IsPermutation found sorted → IsSorted (order_by key) sorted
    → (answer : Bool) → IsAllAdjacentAnswer (λ x y b. b ≡ is_lt (order_by key x y)) sorted answer → not answer ≡ has_twice key found
answered key found sorted moved up true all = sym (rising_distinct key found sorted moved (λ k d h. sym (all k d h)))
answered key found [] moved up false some = absurd (omega (arith, some.1))
answered key found (x ∷ xs) moved up false some =
    sym (level_twice key found (x ∷ xs) moved up some.0 x some.1 (sym (some.2 x)))

-- values each of which is before the next
pub rising_adjacent : {A : Type 0} (key : A → List ℕ) (xs : List A) (answer : Bool)
    → IsAllAdjacentAnswer (λ x y b. b ≡ is_lt (order_by key x y)) xs answer → answer ≡ true → IsRisingBy key xs
unfolding IsStrictlySortedBy
rising_adjacent key [] true all h = tt
rising_adjacent key (x ∷ xs) true all h =
    sorted_from_all_adjacent (on_texts key) (x ∷ xs) x (λ k l. less_from _ (sym (all k x l)))
rising_adjacent key xs false all h = absurd (true≢false (sym h))
