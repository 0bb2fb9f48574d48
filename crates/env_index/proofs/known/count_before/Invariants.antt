use Rattle.std.proofs.Common.{◌-◌, ◌≤◌, ℕ, length}
use Rattle.env_index.specs.Known.{IsDivided}
use Rattle.env_index.proofs.known.count_before.Given as goal

abbrev pub invariant-loop-low : goal.invariant-loop-low
invariant-loop-low l = record {
  order : l.low ≤ l.high;
  within : l.high ≤ length l.list;
  above : (k : ℕ) → IsDivided k l.at l.list → l.low ≤ k;
  below : (k : ℕ) → IsDivided k l.at l.list → k ≤ l.high;
}

abbrev pub decreases-loop-low : goal.decreases-loop-low
decreases-loop-low l = l.high - l.low
