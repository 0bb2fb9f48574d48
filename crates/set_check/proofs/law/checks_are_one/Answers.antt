use Rattle.set_check.proofs.Once.{one_check}
use Rattle.set_check.proofs.law.checks_are_one.Goals as goal

pub returns : goal.returns
returns c = one_check
