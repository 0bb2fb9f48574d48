use Rattle.mailbox.proofs.Accounting.{sets_are_accounted}
use Rattle.mailbox.proofs.laws.sets_are_accounted.Goals as goal

pub returns : goal.returns
returns c = sets_are_accounted
