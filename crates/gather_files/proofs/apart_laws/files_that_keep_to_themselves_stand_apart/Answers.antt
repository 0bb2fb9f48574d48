use Rattle.gather_files.proofs.Gathering.{keep_apart}
use Rattle.gather_files.proofs.apart_laws.files_that_keep_to_themselves_stand_apart.Goals as goal

pub returns : goal.returns
returns c = λ files all. keep_apart files all
