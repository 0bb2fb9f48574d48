use Rattle.std.proofs.Common.{◌≡◌, [], replicate}
use Rattle.mailbox.proofs.render_batch.nothing_rendered.Given as goal

abbrev pub invariant-loop : goal.invariant-loop
invariant-loop l = l.boxes.items ≡ replicate l.counter []
