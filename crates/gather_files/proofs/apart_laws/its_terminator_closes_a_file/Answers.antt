use Rattle.gather_files.proofs.Ending.{closed_by}
use Rattle.gather_files.proofs.apart_laws.its_terminator_closes_a_file.Goals as goal

pub returns : goal.returns
returns c = λ body t own. closed_by body t own
