use Rattle.night_law.proofs.ReadingNights.{ta1s_read_by_night}
use Rattle.night_law.proofs.laws.ta1s_are_read_as_interchanges_are_answered.Goals as goal

pub returns : goal.returns
returns c text setup at night sound moment is = ta1s_read_by_night text setup at night sound moment is
