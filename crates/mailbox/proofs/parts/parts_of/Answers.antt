use Rattle.std.proofs.Common.{arith}
use Rattle.mailbox.proofs.Sharing.{part_pushed}
use Rattle.mailbox.proofs.parts.parts_of.Goals as goal

pub loop-from-preserved : goal.loop-from-preserved
loop-from-preserved c = (
  part_pushed 0 _ _ _ _ c.in_ok-push.ensures.items c.loop-from.invariant.0 (omega arith),
  omega arith,
)
