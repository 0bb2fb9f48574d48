use Rattle.std.proofs.Common.{◌≤◌, length}
use Rattle.number_register.proofs.seen.runs_kept.Given as goal

abbrev pub invariant-loop-kept : goal.invariant-loop-kept
invariant-loop-kept l = l.kept ≤ length l.runs

abbrev pub decreases-loop-kept : goal.decreases-loop-kept
decreases-loop-kept l = l.kept
