use Rattle.count_numbers.specs.Tallying.{laws}
use Rattle.count_numbers.proofs.laws.tally_laws.Goals as goal

pub returns : goal.returns
returns c = laws
