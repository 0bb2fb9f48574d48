use Rattle.gather_files.proofs.Alone.{complete_is_one}
use Rattle.gather_files.proofs.laws.complete_is_one.Goals as goal

pub returns : goal.returns
returns c = complete_is_one
