use Rattle.files_law.proofs.Joined.{named_by_night}
use Rattle.files_law.proofs.track_laws.rows_name_what_is_found.Goals as goal

pub returns : goal.returns
returns c = named_by_night
