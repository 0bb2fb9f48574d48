use Rattle.std.proofs.Common.{length}
use Rattle.guide_fast.proofs.silent.+is_ended_silent.Given as goal

abbrev pub decreases-is_ended_silent : goal.decreases-is_ended_silent
decreases-is_ended_silent l = length l.place.now
