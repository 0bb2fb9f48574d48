-- Own: keys by position, some of them absent, and the first position of a key.
use Rattle.std.specs.Prelude.{◌≡◌, ℕ, ◌+◌, ◌<◌, Bool, List, [], ◌∷◌, Option, Some, None, min, ltb, cond, slice_get}
use Rattle.std.specs.Ordering.{is_eq}
use Rattle.std.specs.declared.cmp.Ordering.{Ordering}
use Rattle.std.specs.declared.cmp.Ordering.TheVariants.{Less}

-- the lesser of two positions, of which one may be absent
abbrev pub lesser : ℕ → Option ℕ → Option ℕ
lesser p None = Some p
lesser p (Some q) = Some (min p q)

-- the first position of a key that passes, counted from n
abbrev pub first_from : {K : Type 0} → (K → Bool) → ℕ → List (Option K) → Option ℕ
first_from test n [] = None
first_from test n (None ∷ keys) = first_from test (n + 1) keys
first_from test n (Some key ∷ keys) = cond (test key) (Some n) (first_from test (n + 1) keys)

-- the first position of a key that is equal to this one
abbrev pub first_of : {K : Type 0} → (K → K → Ordering) → List (Option K) → K → Option ℕ
first_of cmp keys key = first_from (λ k. is_eq (cmp k key)) 0 keys

-- where it is before a position
abbrev pub where_before : ℕ → Option ℕ → Option ℕ
where_before at None = None
where_before at (Some first) = cond (ltb first at) (Some first) None

-- keys rise with their positions
abbrev pub AreRising : {K : Type 0} → (K → K → Ordering) → List (Option K) → Type 0
AreRising {K} cmp keys = (i j : ℕ) (a b : K) → i < j → slice_get keys i ≡ Some (Some a) → slice_get keys j ≡ Some (Some b) → cmp a b ≡ Less

-- from an end on there isn't a key
abbrev pub AreBelow : {K : Type 0} → ℕ → List (Option K) → Type 0
AreBelow {K} end keys = (i : ℕ) (a : K) → slice_get keys i ≡ Some (Some a) → i < end

-- every key before a position is less than this one; this one is less than every key after it
abbrev pub Follows : {K : Type 0} → (K → K → Ordering) → List (Option K) → ℕ → K → Type 0
Follows {K} cmp keys at key = (i : ℕ) (a : K) → i < at → slice_get keys i ≡ Some (Some a) → cmp a key ≡ Less

abbrev pub Precedes : {K : Type 0} → (K → K → Ordering) → List (Option K) → ℕ → K → Type 0
Precedes {K} cmp keys at key = (i : ℕ) (a : K) → at < i → slice_get keys i ≡ Some (Some a) → cmp key a ≡ Less
