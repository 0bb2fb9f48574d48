use Rattle.std.proofs.Common.{ap, ◌∙◌}
use Rattle.x12_bytes.specs.Header.{header_delims}
use Rattle.env_index.proofs.ForAbove.{group_has_spans}
use Rattle.trial_sets.proofs.sets.add_interchange.Goals as goal

pub add_group-requires : goal.add_group-requires
add_group-requires c =
    group_has_spans c.args.text.now c.args.interchange.now c.loop-index.index c.group-group.result c.delims-delims.result c.requires
    c.group-group.ensures (c.delims-delims.ensures.value ∙ ap header_delims c.header.ensures)
