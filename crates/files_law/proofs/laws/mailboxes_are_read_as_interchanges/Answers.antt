use Rattle.files_law.proofs.Boxes.{boxes_by_night}
use Rattle.files_law.proofs.laws.mailboxes_are_read_as_interchanges.Goals as goal

pub returns : goal.returns
returns c text setup at night sound moment is = boxes_by_night text setup at night sound moment is
