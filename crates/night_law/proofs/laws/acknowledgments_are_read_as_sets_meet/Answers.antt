use Rattle.night_law.proofs.ReadingNights.{read_by_night}
use Rattle.night_law.proofs.laws.acknowledgments_are_read_as_sets_meet.Goals as goal

pub returns : goal.returns
returns c text setup at night sound moment is = read_by_night text setup at night sound moment is
