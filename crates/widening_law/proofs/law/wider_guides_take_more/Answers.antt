use Rattle.widening_law.proofs.Meeting.{wider_take_more}
use Rattle.widening_law.proofs.law.wider_guides_take_more.Goals as goal

pub returns : goal.returns
returns c = wider_take_more
