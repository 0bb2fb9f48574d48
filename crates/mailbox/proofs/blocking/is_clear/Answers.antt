use Rattle.std.proofs.Common.{◌≡◌}
use Rattle.std.specs.Prelude.{false}
use Rattle.std.proofs.lemmas.Bool.{OnTrue_at, OnTrue_from}
use Rattle.mailbox.specs.Deliveries.{has_collision}
use Rattle.mailbox.proofs.Passing.{all_clear}
use Rattle.mailbox.proofs.blocking.is_clear.Goals as goal

pub returns : goal.returns
returns c =
    OnTrue_from c.repetition_cannot_collide.result (has_collision c.args.from.now c.args.to.now c.args.text.now ≡ false)
    (λ h. all_clear c.args.from.now c.args.to.now c.args.text.now (OnTrue_at c.if-not-cannot_collide.false c.cannot_collide.ensures)
    (OnTrue_at c.if-not-cannot_collide-2.false c.cannot_collide-2.ensures)
    (OnTrue_at c.if-not-cannot_collide-3.false c.cannot_collide-3.ensures)
    (OnTrue_at h c.repetition_cannot_collide.ensures))
