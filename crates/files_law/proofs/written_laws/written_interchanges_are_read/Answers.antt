use Rattle.files_law.proofs.Interchanges.{interchanges_read}
use Rattle.files_law.proofs.written_laws.written_interchanges_are_read.Goals as goal

pub returns : goal.returns
returns c = λ ws written clear. interchanges_read ws written clear
