use Rattle.gather_files.proofs.Alone.{count_is_one}
use Rattle.gather_files.proofs.laws.count_is_one.Goals as goal

pub returns : goal.returns
returns c = count_is_one
