use Rattle.gather_files.proofs.Lacking.{lack_is_one}
use Rattle.gather_files.proofs.laws.lack_is_one.Goals as goal

pub returns : goal.returns
returns c = lack_is_one
