use Rattle.files_law.proofs.Clear.{otherwise_clear}
use Rattle.files_law.proofs.written_laws.other_segments_are_clear.Goals as goal

pub returns : goal.returns
returns c = λ ws written all. otherwise_clear ws written all
