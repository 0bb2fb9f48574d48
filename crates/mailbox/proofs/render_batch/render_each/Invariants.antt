use Rattle.mailbox.specs.Rendering.{AreWritten}
use Rattle.mailbox.proofs.render_batch.render_each.Given as goal

abbrev pub invariant-loop-place : goal.invariant-loop-place
invariant-loop-place g l = AreWritten l.setup l.lists l.place l.initial.boxes l.boxes
