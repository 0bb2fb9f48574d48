use Rattle.gather_files.proofs.Said.{goes_in_is_one}
use Rattle.gather_files.proofs.laws.goes_in_is_one.Goals as goal

pub returns : goal.returns
returns c = goes_in_is_one
