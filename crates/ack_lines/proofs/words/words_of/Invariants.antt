use Rattle.std.proofs.Common.{◌≡◌, length}
use Rattle.ack_lines.specs.Worded.{words_by}
use Rattle.ack_lines.proofs.words.words_of.Given as goal

abbrev pub invariant-loop-left : goal.invariant-loop-left
invariant-loop-left l =
    words_by (λ row. row.0.now) (λ row. row.1.now) l.left l.code ≡ words_by (λ row. row.0.now) (λ row. row.1.now) l.table l.code

abbrev pub decreases-loop-left : goal.decreases-loop-left
decreases-loop-left l = length l.left
