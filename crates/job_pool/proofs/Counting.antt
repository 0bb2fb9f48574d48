-- Numbers of which each below n stands once.
use Rattle.std.proofs.Common.{◌≡◌, ◌==◌, ℕ, zero, suc, ◌+◌, ◌<◌, ◌≤◌, ◌≢◌, Bool, true, List, [], ◌∷◌, length}
use Rattle.std.proofs.Common.{Some, slice_get, sym, refl, ap, ◌∙◌, ⊎_elim, if◌then◌else◌, sum_by, arith, eqb, ◌||◌}
use Rattle.std.proofs.lemmas.Bool.{eq-eqb, ne_eqb, lt-ltb, le-ltb, cases_eq, cases_lt}
use Rattle.std.specs.List.{list_any}
use Rattle.std.specs.List.Sorted.{IsPermutation}
use Rattle.std.proofs.lemmas.List.Sorted.{sum_by-IsPermutation}
use Rattle.std.proofs.lemmas.List.Sums.{sum_by-cons}
use Rattle.std.proofs.lemmas.Map.Steps.{le-length_from_below}
use Rattle.std.proofs.lemmas.Option.{same_Some, none-some}
use Rattle.claim_desk.specs.Seats.{times, once_below, EachOnce}

is_sum : (x : ℕ) (ys : List ℕ) → times x ys ≡ sum_by (λ y. if◌then◌else◌ {A = ℕ} (x == y) 1 0) ys
is_sum x [] = refl
is_sum x (y ∷ ys) =
    ap (λ k. (if◌then◌else◌ {A = ℕ} (x == y) 1 0) + k) (is_sum x ys)
    ∙ sym (sum_by-cons (λ y. if◌then◌else◌ {A = ℕ} (x == y) 1 0) y ys)

pub EachOnce-permutation : (n : ℕ) (xs ys : List ℕ) → IsPermutation xs ys → EachOnce n xs → EachOnce n ys
EachOnce-permutation n xs ys p once x =
    is_sum x ys
    ∙ sum_by-IsPermutation (λ y. if◌then◌else◌ {A = ℕ} (x == y) 1 0) xs ys p
    ∙ sym (is_sum x xs) ∙ once x

one : (x y : ℕ) → x ≡ y → if◌then◌else◌ {A = ℕ} (x == y) 1 0 ≡ 1
one x y e = ap (λ (b : Bool). if◌then◌else◌ {A = ℕ} b 1 0) (eq-eqb x y e)

none : (x y : ℕ) → x ≢ y → if◌then◌else◌ {A = ℕ} (x == y) 1 0 ≡ 0
none x y e = ap (λ (b : Bool). if◌then◌else◌ {A = ℕ} b 1 0) (ne_eqb x y e)

below : (n x : ℕ) → x < n → once_below x n ≡ 1
below n x h = ap (λ (b : Bool). if◌then◌else◌ {A = ℕ} b 1 0) (lt-ltb x n h)

above : (n x : ℕ) → n ≤ x → once_below x n ≡ 0
above n x h = ap (λ (b : Bool). if◌then◌else◌ {A = ℕ} b 1 0) (le-ltb x n h)

-- x stands at a place
occurs : (xs : List ℕ) (i x : ℕ) → slice_get xs i ≡ Some x → 0 < times x xs
occurs [] i x at = absurd (none-some x at)
occurs (y ∷ ys) zero x at = let o = one x y (sym (same_Some y x at)) in omega arith
occurs (y ∷ ys) (suc i) x at = let r = occurs ys i x at in omega arith

-- x stands at two places
occurs_twice : (xs : List ℕ) (i j x : ℕ) → slice_get xs i ≡ Some x → slice_get xs j ≡ Some x → i ≢ j → 1 < times x xs
occurs_twice [] i j x at also apart = absurd (none-some x at)
occurs_twice (y ∷ ys) zero zero x at also apart = absurd (apart refl)
occurs_twice (y ∷ ys) zero (suc j) x at also apart =
    let o = one x y (sym (same_Some y x at)) in let r = occurs ys j x also in omega arith
occurs_twice (y ∷ ys) (suc i) zero x at also apart =
    let o = one x y (sym (same_Some y x also)) in let r = occurs ys i x at in omega arith
occurs_twice (y ∷ ys) (suc i) (suc j) x at also apart =
    let r = occurs_twice ys i j x at also (λ e. apart (ap suc e)) in omega arith

-- the test of std finds it
found : (xs : List ℕ) (x : ℕ) → 0 < times x xs → list_any (eqb x) xs ≡ true
found [] x h = absurd (omega arith)
found (y ∷ ys) x h =
    ⊎_elim (λ (e : x ≡ y). ap (λ (b : Bool). b || list_any (eqb x) ys) (eq-eqb x y e))
    (λ (n : x ≢ y). let z = none x y n in
    ap (λ (b : Bool). b || list_any (eqb x) ys) (ne_eqb x y n) ∙ found ys x (omega arith)) (cases_eq x y)

pub is_below : (n : ℕ) (xs : List ℕ) → EachOnce n xs → (i x : ℕ) → slice_get xs i ≡ Some x → x < n
is_below n xs once i x at =
    ⊎_elim (λ (l : x < n). l)
    (λ (h : n ≤ x). let o = occurs xs i x at in let z = once x ∙ above n x h in absurd (omega arith)) (cases_lt x n)

pub at_least : (n : ℕ) (xs : List ℕ) → EachOnce n xs → n ≤ length xs
at_least n xs once = le-length_from_below xs n (λ q h. found xs q (let e = once q ∙ below n q h in omega arith))

pub is_within : (n : ℕ) (xs : List ℕ) → EachOnce n xs → (i x : ℕ) → slice_get xs i ≡ Some x → x < length xs
is_within n xs once i x at = let l = is_below n xs once i x at in let g = at_least n xs once in omega arith

pub in_one_place : (n : ℕ) (xs : List ℕ) → EachOnce n xs → (i j x : ℕ) → slice_get xs i ≡ Some x → i ≢ j → slice_get xs j ≢ Some x
in_one_place n xs once i j x at apart also =
    let low = is_below n xs once i x at in
    let e = once x ∙ below n x low in
    let t = occurs_twice xs i j x at also apart in absurd (omega arith)
