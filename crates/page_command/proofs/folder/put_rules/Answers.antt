use Rattle.std.proofs.Common.{◌∙◌, ◌+◌}
use Rattle.guide_tree.specs.Words.{guide_of}
use Rattle.page_command.proofs.Putting.{more_rules}
use Rattle.page_command.proofs.folder.put_rules.Goals as goal

pub loop-number-preserved : goal.loop-number-preserved
loop-number-preserved g c = (
  more_rules (guide_of c.args.rules.now.guide) c.args.rules.now.rules 0 c.loop-number.number (c.loop-number.number + 1)
      (g.B.Outbox.contents c.args.folder.now) (g.B.Outbox.contents c.loop-number.folder) (g.B.Outbox.contents c.put_rule.new.folder)
      c.args.list.now.items c.loop-number.list.items c.put_rule.new.list.items c.loop-number.invariant.0
      c.in_ok-put_rule.ensures.samples,
  c.in_ok-put_rule.ensures.faults ∙ c.loop-number.invariant.1,
)
