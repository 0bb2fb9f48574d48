use Rattle.std.proofs.Common.{◌≡◌, length}
use Rattle.key_errors.specs.Rows.{words_by}
use Rattle.key_errors.proofs.rows.words_in.Given as goal

abbrev pub invariant-loop-left : goal.invariant-loop-left
invariant-loop-left l =
    words_by (λ row. row.0.now) (λ row. row.1.now) l.left l.other l.key
    ≡ words_by (λ row. row.0.now) (λ row. row.1.now) l.rows l.other l.key

abbrev pub decreases-loop-left : goal.decreases-loop-left
decreases-loop-left l = length l.left
