use Rattle.cut_plan.proofs.Whole.{whole}
use Rattle.cut_plan.proofs.laws.pieces_are_the_text.Goals as goal

pub returns : goal.returns
returns c = λ plan is. whole plan is
