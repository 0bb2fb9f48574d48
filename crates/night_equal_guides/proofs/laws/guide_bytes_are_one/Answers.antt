use Rattle.night_equal_guides.proofs.Guides.{guide_bytes_are_one}
use Rattle.night_equal_guides.proofs.laws.guide_bytes_are_one.Goals as goal

pub returns : goal.returns
returns c = guide_bytes_are_one
