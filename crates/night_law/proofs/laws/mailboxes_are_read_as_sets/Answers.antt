use Rattle.night_law.proofs.Delivered.{boxes_read_by_night}
use Rattle.night_law.proofs.laws.mailboxes_are_read_as_sets.Goals as goal

pub returns : goal.returns
returns c = boxes_read_by_night
