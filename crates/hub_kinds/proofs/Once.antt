-- Values with a key, sorted and each kept once.
use Rattle.std.proofs.Common.{ℕ, ◌≡◌, List, [], true, rules, refl, sym, subst}
use Rattle.std.specs.Ordering.{is_lt, is_eq, eq_by_cmp}
use Rattle.std.specs.declared.cmp.Ordering.{Ordering}
use Rattle.std.specs.declared.cmp.Ordering.TheVariants.{Less, Equal, Greater}
use Rattle.std.specs.Cmp.{IsTotalOrder, IsStrictWeakOrder}
use Rattle.std.specs.Cmp.Lexicographic.{on_texts}
use Rattle.std.specs.List.{Contains, dedup}
use Rattle.std.specs.List.Sorted.{IsPermutation, IsSorted}
use Rattle.std.proofs.lemmas.Cmp.{nat_list_cmp_total, eq_by_cmp_equiv}
use Rattle.std.proofs.lemmas.List.Sorted.{ranks_by, IsPermutation-sym, Contains-permutation}
use Rattle.std.proofs.lemmas.List.Kept.{Any-dedup, Contains-from_dedup, IsStrictlySortedBy-dedup}
use Rattle.std.proofs.lemmas.Map.Lookups.{exact_bytes}
use Rattle.hub_kinds.specs.Rising.{order_by, IsRisingBy, IsKeyedBy}
use Rattle.hub_kinds.specs.Rows.{IsOnceEach}

order_total : {A : Type 0} (key : A → List ℕ) → IsTotalOrder (order_by key)
order_total key = on_texts key

pub order_ranks : {A : Type 0} (key : A → List ℕ) → IsStrictWeakOrder (λ x y. is_lt (order_by key x y))
order_ranks key = ranks_by nat_list_cmp_total key

-- the one value of a list with each key
abbrev pub once : {A : Type 0} → (A → List ℕ) → List A → List A
once key xs = dedup (eq_by_cmp (order_by key)) xs

none_sorted : {A : Type 0} (key : A → List ℕ) → IsSorted (order_by key) []
none_sorted key = search rules

pub once_rises : {A : Type 0} (key : A → List ℕ) (sorted : List A) → IsSorted (order_by key) sorted → IsRisingBy key (once key sorted)
once_rises key sorted up = IsStrictlySortedBy-dedup (order_total key) (λ x y. refl) sorted up

pub none_rises : {A : Type 0} (key : A → List ℕ) → IsRisingBy key []
none_rises key = once_rises key [] (none_sorted key)

equal_from : (o : Ordering) → is_eq o ≡ true → o ≡ Equal
equal_from Less h = cc
equal_from Equal h = refl
equal_from Greater h = cc

pub once_from : {A : Type 0} (key : A → List ℕ) (found sorted : List A) (x : A) → IsPermutation found sorted
    → Contains (once key sorted) x → Contains found x
once_from key found sorted x moved h = Contains-permutation sorted found x (IsPermutation-sym found sorted moved)
    (Contains-from_dedup (eq_by_cmp (order_by key)) sorted x h)

-- one of the values that are kept has the key of each
pub once_like : {A : Type 0} (key : A → List ℕ) (found sorted : List A) (x : A) → IsPermutation found sorted → Contains found x
    → (y : A) × Contains (once key sorted) y × (key x ≡ key y)
once_like key found sorted x moved h =
    let kept = Any-dedup (eq_by_cmp_equiv (order_total key)) sorted x (Contains-permutation found sorted x moved h) in
    (kept.1, (kept.0, kept.2, kept.3), exact_bytes _ _ (equal_from (order_by key x kept.1) kept.4))

pub once_to : {A : Type 0} (key : A → List ℕ) (found sorted : List A) (x : A) → IsPermutation found sorted → IsKeyedBy key found
    → Contains found x → Contains (once key sorted) x
once_to key found sorted x moved keyed h =
    let y = once_like key found sorted x moved h in
    let same = keyed x y.0 h (once_from key found sorted y.0 moved y.1) y.2 in
    subst (λ y. Contains (once key sorted) y) (sym same) y.1

-- sorted values, one with each key
pub once_each : {A : Type 0} (key : A → List ℕ) (found sorted : List A) → IsPermutation found sorted → IsSorted (order_by key) sorted
    → IsOnceEach key found (once key sorted)
once_each key found sorted moved up = record {
  from = λ x h. once_from key found sorted x moved h;
  to = λ x h. once_like key found sorted x moved h;
  rising = once_rises key sorted up;
}
