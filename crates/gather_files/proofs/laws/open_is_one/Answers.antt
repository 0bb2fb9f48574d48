use Rattle.gather_files.proofs.Opening.{open_is_one}
use Rattle.gather_files.proofs.laws.open_is_one.Goals as goal

pub returns : goal.returns
returns c = open_is_one
