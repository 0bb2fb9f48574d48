use Rattle.std.proofs.Common.{◌+◌}
use Rattle.env_index.proofs.Placing.{one_more, groups_at}
use Rattle.env_index.proofs.placed.add_groups.Goals as goal

pub loop-index-preserved : goal.loop-index-preserved
loop-index-preserved c =
    one_more c.loop-index.places.items c.add_group.new.places.items _ _ _ _ c.in_ok-add_group.ensures
    (groups_at c.args.isa (c.loop-index.index + 1) c.loop-index.index c.args.interchange.now.content.groups c.group.result c.group.ensures)
    c.loop-index.invariant
