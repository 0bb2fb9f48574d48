use Rattle.std.proofs.Common.{ap, ◌∙◌}
use Rattle.x12_bytes.specs.Header.{header_delims}
use Rattle.env_index.proofs.ForAbove.{group_has_spans}
use Rattle.trial_sets.proofs.answers.acknowledgment.Goals as goal

pub answers_to-requires : goal.answers_to-requires
answers_to-requires c =
    group_has_spans c.args.text.now c.args.interchange.now 0 c.group-group.result c.delims-delims.result c.requires
    c.group-group.ensures (c.delims-delims.ensures.value ∙ ap header_delims c.header.ensures)
