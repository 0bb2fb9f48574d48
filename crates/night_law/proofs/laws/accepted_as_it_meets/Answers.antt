use Rattle.night_law.proofs.Accepted.{accepted_as_it_meets}
use Rattle.night_law.proofs.laws.accepted_as_it_meets.Goals as goal

pub returns : goal.returns
returns c = accepted_as_it_meets
