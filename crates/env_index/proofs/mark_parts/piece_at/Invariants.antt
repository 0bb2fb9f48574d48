use Rattle.std.proofs.Common.{length, ◌-◌, ◌≤◌}
use Rattle.env_index.proofs.mark_parts.piece_at.Given as goal

abbrev pub invariant-loop-piece : goal.invariant-loop-piece
invariant-loop-piece l = 0 ≤ l.piece

abbrev pub decreases-loop-piece : goal.decreases-loop-piece
decreases-loop-piece l = length l.marks - l.piece
