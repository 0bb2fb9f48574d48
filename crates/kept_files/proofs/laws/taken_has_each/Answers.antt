use Rattle.kept_files.proofs.Cutting.{has_each}
use Rattle.kept_files.proofs.laws.taken_has_each.Goals as goal

pub returns : goal.returns
returns c = has_each
