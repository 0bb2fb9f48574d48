-- Own: lists that rise by a key, so that each key appears once.
use Rattle.std.specs.Prelude.{ℕ, ◌≡◌, List}
use Rattle.std.specs.Ordering.{nat_cmp}
use Rattle.std.specs.declared.cmp.Ordering.{Ordering}
use Rattle.std.specs.Cmp.Lexicographic.{slice_cmp}
use Rattle.std.specs.List.{Contains}
use Rattle.std.specs.List.Sorted.{IsStrictlySortedBy}

-- by the numbers of the keys, from first to last
abbrev pub order_by : {A : Type 0} → (A → List ℕ) → A → A → Ordering
order_by key x y = slice_cmp nat_cmp (key x) (key y)

-- each value is before the next ones
abbrev pub IsRisingBy : {A : Type 0} → (A → List ℕ) → List A → Type 0
IsRisingBy key xs = IsStrictlySortedBy (order_by key) xs

-- no two different values of a list share a key
abbrev pub IsKeyedBy : {A : Type 0} → (A → List ℕ) → List A → Type 0
IsKeyedBy {A} key xs = (x y : A) → Contains xs x → Contains xs y → key x ≡ key y → x ≡ y
