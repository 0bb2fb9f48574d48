use Rattle.files_law.proofs.OneTrack.{track_once}
use Rattle.files_law.proofs.track_laws.track_is_one.Goals as goal

pub returns : goal.returns
returns c = track_once
