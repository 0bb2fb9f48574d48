use Rattle.std.proofs.Common.{◌∙◌}
use Rattle.number_register.proofs.Runs.{searched}
use Rattle.number_register.proofs.seen.has.Goals as goal

pub returns : goal.returns
returns c up =
    let found = c.binary_search.ensures in
    c.is_ok.ensures.value ∙ searched c.args.run.now c.args.key.now c.binary_search.result up found.bound found.position
