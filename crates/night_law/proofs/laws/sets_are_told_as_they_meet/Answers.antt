use Rattle.night_law.proofs.TellingNights.{told_by_night}
use Rattle.night_law.proofs.laws.sets_are_told_as_they_meet.Goals as goal

pub returns : goal.returns
returns c = told_by_night
