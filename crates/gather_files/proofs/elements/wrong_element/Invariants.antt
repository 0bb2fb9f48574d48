use Rattle.std.proofs.Common.{◌≡◌, ◌≤◌, ◌<◌, ◌+◌, ◌-◌, ℕ, true}
use Rattle.gather_files.specs.Causes.{is_wide}
use Rattle.gather_files.proofs.elements.wrong_element.Given as goal

abbrev pub invariant-loop-k : goal.invariant-loop-k
invariant-loop-k l = record {
  from : 1 ≤ l.k;
  to : l.k ≤ 16;
  wide : (j : ℕ) → j < l.k - 1 → is_wide l.file (1 + j) ≡ true;
}

abbrev pub decreases-loop-k : goal.decreases-loop-k
decreases-loop-k l = 16 - l.k
