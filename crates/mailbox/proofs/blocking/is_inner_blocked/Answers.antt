use Rattle.std.proofs.Common.{sym}
use Rattle.std.specs.Prelude.{drop}
use Rattle.std.proofs.lemmas.Bool.{OnTrue_at}
use Rattle.x12_segs.specs.Words.{SegValue}
use Rattle.mailbox.specs.Deliveries.{inner_count, collides, has_collision}
use Rattle.answered_sets.specs.Judged.{segments_in}
use Rattle.answered_sets.proofs.ForAbove.{none_dropped, none_taken}
use Rattle.mailbox.proofs.blocking.is_inner_blocked.Goals as goal

pub returns-then-is_clear : goal.returns-then-is_clear
returns-then-is_clear c =
    let p = c.args.placed.now in
    let test = λ (seg : SegValue). has_collision c.args.from.now c.args.to.now seg.bytes in
    sym (none_taken test (inner_count p) (drop 1 (segments_in p)) (none_dropped test 1 (segments_in p)
    (c.stretch.ensures (collides c.args.from.now c.args.to.now) (OnTrue_at c.if-is_clear.true c.is_clear.ensures))))
