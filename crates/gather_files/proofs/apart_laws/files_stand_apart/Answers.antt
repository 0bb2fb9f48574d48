use Rattle.gather_files.proofs.Gathering.{stand_apart}
use Rattle.gather_files.proofs.apart_laws.files_stand_apart.Goals as goal

pub returns : goal.returns
returns c = λ files all. stand_apart files all
