use Rattle.std.proofs.Common.{ap, ◌∙◌}
use Rattle.x12_bytes.specs.Header.{header_delims}
use Rattle.env_index.proofs.ForAbove.{group_has_spans}
use Rattle.trial_workers.proofs.checking.jobs_in.Goals as goal

pub jobs_of-requires : goal.jobs_of-requires
jobs_of-requires c =
    group_has_spans c.args.text.now c.args.interchange.now 0 c.group-group.result c.delims-delims.result c.requires
    c.group-group.ensures (c.delims-delims.ensures.value ∙ ap header_delims c.header.ensures)
