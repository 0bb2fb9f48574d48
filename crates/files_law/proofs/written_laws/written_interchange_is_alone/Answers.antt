use Rattle.files_law.proofs.Lone.{written_alone}
use Rattle.files_law.proofs.written_laws.written_interchange_is_alone.Goals as goal

pub returns : goal.returns
returns c = λ w written clear. written_alone w written clear
