use Rattle.set_check.proofs.Meeting.{clean_as_it_meets}
use Rattle.set_check.proofs.law.clean_sets_meet_their_guides.Goals as goal

pub returns : goal.returns
returns c = clean_as_it_meets
