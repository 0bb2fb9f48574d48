use Rattle.std.proofs.Common.{length}
use Rattle.guide_fast.proofs.next.+turn_among.Given as goal

abbrev pub decreases-turn_among : goal.decreases-turn_among
decreases-turn_among l = length l.place.now
