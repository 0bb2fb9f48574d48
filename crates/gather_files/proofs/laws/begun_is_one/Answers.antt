use Rattle.gather_files.proofs.Completing.{begun_is_one}
use Rattle.gather_files.proofs.laws.begun_is_one.Goals as goal

pub returns : goal.returns
returns c = begun_is_one
