use Rattle.night_law.proofs.OneNight.{night_once}
use Rattle.night_law.proofs.laws.night_is_one.Goals as goal

pub returns : goal.returns
returns c = night_once
