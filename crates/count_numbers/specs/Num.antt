-- X12.5, interchange control number (ISA13), and X12.6, group control number (GS06) and transaction set control number (ST02): which
-- number comes so far after a first one (own).
use Rattle.std.specs.Prelude.{ℕ, ◌+◌, ◌-◌, ◌%◌}

-- the number k after `start`; 1 follows 999,999,999
abbrev pub num : (start k : ℕ) → ℕ
num start k = 1 + (start - 1 + k) % 999999999
