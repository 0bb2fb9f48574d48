use Rattle.std.proofs.Common.{◌∙◌}
use Rattle.diff_samples.proofs.Putting.{more}
use Rattle.diff_samples.proofs.samples.put_all.Goals as goal

pub loop-number-preserved : goal.loop-number-preserved
loop-number-preserved g c = (
  more c.args.compared.now c.loop-number.number (g.B.Outbox.contents c.args.folder.now) (g.B.Outbox.contents c.loop-number.folder)
      (g.B.Outbox.contents c.put_one.new.folder) c.args.list.now.items c.loop-number.list.items c.put_one.new.list.items
      c.loop-number.invariant.0 c.in_ok-put_one.ensures.samples,
  c.in_ok-put_one.ensures.faults ∙ c.loop-number.invariant.1,
)
