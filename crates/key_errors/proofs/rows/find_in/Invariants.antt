use Rattle.std.proofs.Common.{◌≡◌, length}
use Rattle.key_errors.specs.Rows.{find_by}
use Rattle.key_errors.proofs.rows.find_in.Given as goal

abbrev pub invariant-loop-left : goal.invariant-loop-left
invariant-loop-left g l =
    find_by (λ row. row.0.now) (λ row. row.1) l.left l.key ≡ find_by (λ row. row.0.now) (λ row. row.1) l.rows l.key

abbrev pub decreases-loop-left : goal.decreases-loop-left
decreases-loop-left g l = length l.left
