use Rattle.std.proofs.Common.{refl}
use Rattle.set_check.proofs.Verdicts.{meets_by}
use Rattle.set_check.proofs.law.accepted_sets_meet_their_guides.Goals as goal

pub returns : goal.returns
returns c checked earlier is = meets_by checked is earlier _ refl
