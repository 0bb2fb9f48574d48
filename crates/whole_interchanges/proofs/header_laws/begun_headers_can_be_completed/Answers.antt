use Rattle.whole_interchanges.proofs.Complete.{head_completed}
use Rattle.whole_interchanges.proofs.header_laws.begun_headers_can_be_completed.Goals as goal

pub returns : goal.returns
returns c = λ read at bytes le begun. head_completed read at bytes le begun
