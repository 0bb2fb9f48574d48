-- Values in the order of their keys, each key once.
use Rattle.std.proofs.Common.{ℕ, List, refl}
use Rattle.std.specs.Cmp.{IsStrictWeakOrder}
use Rattle.std.specs.Cmp.Lexicographic.{nat_list_cmp_total, on_texts}
use Rattle.std.specs.List.{dedup}
use Rattle.std.specs.List.Sorted.{IsSorted}
use Rattle.std.specs.Ordering.{eq_by_cmp, is_lt}
use Rattle.std.proofs.lemmas.List.Kept.{IsStrictlySortedBy-dedup}
use Rattle.std.proofs.lemmas.List.Sorted.{ranks_by}
use Rattle.hub_kinds.specs.Rising.{IsRisingBy, order_by}

pub order_ranks : {X : Type 0} (key : X → List ℕ) → IsStrictWeakOrder (λ x y. is_lt (order_by key x y))
order_ranks key = ranks_by nat_list_cmp_total key

-- the first value of each key, if values of one key are neighbours
abbrev pub once : {X : Type 0} → (X → List ℕ) → List X → List X
once key values = dedup (eq_by_cmp (order_by key)) values

pub once_rises : {X : Type 0} (key : X → List ℕ) (values : List X) → IsSorted (order_by key) values → IsRisingBy key (once key values)
once_rises key values sorted = IsStrictlySortedBy-dedup (on_texts key) (λ x y. refl) values sorted
