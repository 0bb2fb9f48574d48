use Rattle.files_law.proofs.Within.{within_clear}
use Rattle.files_law.proofs.written_laws.segments_as_read_are_clear.Goals as goal

pub returns : goal.returns
returns c = λ d ws written same none. within_clear d ws written same none
