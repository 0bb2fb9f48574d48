use Rattle.night_equal.proofs.Segments.{segments_are}
use Rattle.night_equal.proofs.laws.segments_are_one.Goals as goal

pub returns : goal.returns
returns c = segments_are
