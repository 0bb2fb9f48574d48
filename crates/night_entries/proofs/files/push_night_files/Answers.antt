use Rattle.night_entries.proofs.Same.{three}
use Rattle.night_entries.proofs.files.push_night_files.Goals as goal

pub returns : goal.returns
returns c = three _ _ _ _ _ _ _ c.in_ok-push_name.ensures c.in_ok-push_name-2.ensures c.in_ok-push_name-3.ensures
