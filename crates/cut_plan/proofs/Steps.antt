-- The multiples of a number rise, and stay in bounds.
use Rattle.std.proofs.Math.Nat.{mul-le-mul_left}
use Rattle.std.proofs.Common.{◌≡◌, ℕ, suc, zero, ◌+◌, ◌-◌, ◌*◌, ◌/◌, ◌<◌, ◌≤◌, refl, arith, true, map}
use Rattle.std.specs.List.{list_all, range_with_len}
use Rattle.std.specs.Prelude.{nat_le}
use Rattle.std.proofs.lemmas.Bool.{le-leb, and_from}
use Rattle.cut_plan.specs.Plan.{rises_from}

pub rises_from-multiples : (a n j k : ℕ) → a ≤ n * j → rises_from a (map (λ i. n * i) (range_with_len j k)) ≡ true
rises_from-multiples a n j zero h = refl
rises_from-multiples a n j (suc k) h =
    and_from _ _ (le-leb _ _ h) (rises_from-multiples (n * j) n (j + 1) k (omega arith))

pub list_all-multiples : (len n j k : ℕ) → n * (j + k) ≤ len + n
    → list_all (λ c. nat_le c len) (map (λ i. n * i) (range_with_len j k)) ≡ true
list_all-multiples len n j zero h = refl
list_all-multiples len n j (suc k) h =
    and_from _ _ (le-leb _ _ (omega arith)) (list_all-multiples len n (j + 1) k (omega arith))

pub last_multiple : (len d n k : ℕ) → 0 < n → d ≡ len - 1 → k ≤ d / n → n * (1 + k) ≤ len + n
last_multiple len d n k pos e h =
    let below : n * k ≤ n * (d / n) = mul-le-mul_left n h in
    let whole : n * (d / n) ≤ d = omega arith in
    omega arith
