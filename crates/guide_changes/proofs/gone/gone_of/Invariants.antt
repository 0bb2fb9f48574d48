use Rattle.std.proofs.Common.{ℕ, List, ◌++◌, drop}
use Rattle.guide_changes.specs.Changes.{AreGoneOf}
use Rattle.guide_changes.proofs.gone.gone_of.Given as goal

abbrev pub invariant-loop-i : goal.invariant-loop-i
invariant-loop-i g l =
    (rest : List ℕ) → AreGoneOf l.guides (drop l.i l.names) rest → AreGoneOf l.guides l.names (l.out.items ++ rest)
