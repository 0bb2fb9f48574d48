use Rattle.gather_files.proofs.Alone.{alone_is_one}
use Rattle.gather_files.proofs.laws.alone_is_one.Goals as goal

pub returns : goal.returns
returns c = alone_is_one
