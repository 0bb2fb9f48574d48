use Rattle.count_numbers.proofs.Counts.{numbers_counted}
use Rattle.count_numbers.proofs.laws.numbers_are_counted.Goals as goal

pub returns : goal.returns
returns c = numbers_counted
