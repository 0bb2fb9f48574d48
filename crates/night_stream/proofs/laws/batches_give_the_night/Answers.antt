use Rattle.night_stream.proofs.Closed.{closed}
use Rattle.night_stream.proofs.laws.batches_give_the_night.Goals as goal

pub returns : goal.returns
returns c = λ text setup at n night is by. closed text setup at n night is by
