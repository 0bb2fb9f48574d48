use Rattle.std.proofs.Common.{◌≡◌, ◌≤◌, ◌++◌, drop}
use Rattle.guide_fast.specs.Needed.{counts_from}
use Rattle.guide_fast.proofs.counts.needed_counts.Given as goal

-- the counts so far, with those of the nodes left
abbrev pub invariant-loop-k : goal.invariant-loop-k
invariant-loop-k l =
    (l.counts.items ++ counts_from l.count (drop l.k l.nodes) ≡ counts_from 0 l.nodes) × (l.count ≤ l.k)
