use Rattle.std.proofs.Common.{subst}
use Rattle.night_batches.specs.Writing.{IsBatchWritten, WritingValue}
use Rattle.hub_run.proofs.writing.write_night.Goals as goal

pub close_one-requires : goal.close_one-requires
close_one-requires c =
    subst (λ (w : WritingValue). IsBatchWritten c.args.index.now.text c.args.setup.now c.args.at.now 0 c.args.index.now.entries
    c.args.index.now.outside w c.in_ok-written.written) c.in_ok-nothing.ensures.nothing c.in_ok-written.ensures
