use Rattle.gather_files.proofs.Blanks.{blanks_break}
use Rattle.gather_files.proofs.apart_laws.spaces_end_a_file.Goals as goal

pub returns : goal.returns
returns c = λ body tail other q lt. blanks_break body tail other q lt
