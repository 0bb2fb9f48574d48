use Rattle.gather_files.proofs.Parts.{gives_up, holds_on, keeps, reads_on}
use Rattle.gather_files.proofs.apart_laws.parts_of_a_file_keep_on.Goals as goal

pub returns-clause-reads : goal.returns-clause-reads
returns-clause-reads c = λ front held next n whole. reads_on front held next n whole

pub returns-clause-gives_up : goal.returns-clause-gives_up
returns-clause-gives_up c = λ front held at n m le whole passes. gives_up front held at n m le whole passes

pub returns-clause-ends : goal.returns-clause-ends
returns-clause-ends c = λ front held n m whole holds. holds_on front held n m whole holds

pub returns-clause-keeps : goal.returns-clause-keeps
returns-clause-keeps c = λ bytes n holds. keeps bytes n holds
