-- Powers of ten that fit 64 bits.
use Rattle.std.proofs.Common.{ℕ, ◌^◌, ◌≤◌, arith}
use Rattle.std.proofs.Math.Nat.{pow-le-pow_right}

-- before the last of 19 digits there are 18 at most
pub below_last_digit : (i : ℕ) → i ≤ 18 → 10 ^ i ≤ 1000000000000000000
below_last_digit i few = pow-le-pow_right {n = 10} (omega arith) {i = i} {j = 18} few
