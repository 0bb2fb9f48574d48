use Rattle.files_law.proofs.Finding.{found_sets}
use Rattle.files_law.proofs.track_laws.sets_found_are_those.Goals as goal

pub returns : goal.returns
returns c = found_sets
