use Rattle.night_law.proofs.Once.{checked_once}
use Rattle.night_law.proofs.laws.answers_are_one.Goals as goal

pub returns : goal.returns
returns c = checked_once
