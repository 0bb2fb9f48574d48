use Rattle.std.proofs.Common.{◌∙◌}
use Rattle.set_check.proofs.Rising.{searched}
use Rattle.set_check.proofs.rules.has_key_among.Goals as goal

pub returns : goal.returns
returns c up =
    c.is_ok.ensures.value ∙ searched c.args.faults.now c.args.fault.now c.search.result up c.search.ensures.bound
    c.search.ensures.position
