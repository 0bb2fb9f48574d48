use Rattle.gather_files.proofs.Alone.{files_are_read}
use Rattle.gather_files.proofs.laws.files_are_read.Goals as goal

pub returns : goal.returns
returns c = files_are_read
