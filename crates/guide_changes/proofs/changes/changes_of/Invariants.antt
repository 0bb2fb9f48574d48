use Rattle.std.proofs.Common.{ℕ, List, ◌++◌, drop}
use Rattle.guide_changes.specs.Changes.{AreChangesOf}
use Rattle.guide_changes.proofs.changes.changes_of.Given as goal

abbrev pub invariant-loop-i : goal.invariant-loop-i
invariant-loop-i g l =
    (rest : List ℕ) → AreChangesOf l.before (drop l.i l.files) rest → AreChangesOf l.before l.files (l.out.items ++ rest)
