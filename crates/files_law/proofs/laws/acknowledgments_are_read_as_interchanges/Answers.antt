use Rattle.files_law.proofs.Nights.{read_by_night}
use Rattle.files_law.proofs.laws.acknowledgments_are_read_as_interchanges.Goals as goal

pub returns : goal.returns
returns c text setup at night sound moment is = read_by_night text setup at night sound moment is
