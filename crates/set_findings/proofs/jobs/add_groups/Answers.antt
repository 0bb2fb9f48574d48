use Rattle.std.proofs.Common.{◌+◌}
use Rattle.set_findings.proofs.Adding.{groups_at, one_more}
use Rattle.set_findings.proofs.jobs.add_groups.Goals as goal

pub loop-index-preserved : goal.loop-index-preserved
loop-index-preserved c =
    one_more _ _ _ _ _ _ c.in_ok-add_group.ensures
    (groups_at c.args.sent.now c.args.isa (c.loop-index.index + 1) c.loop-index.index c.args.interchange.now.content.groups c.group.result
    c.group.ensures)
    c.loop-index.invariant
