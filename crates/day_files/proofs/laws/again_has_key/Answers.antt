use Rattle.day_files.proofs.Asking.{again_has_key}
use Rattle.day_files.proofs.laws.again_has_key.Goals as goal

pub returns : goal.returns
returns c = again_has_key
