use Rattle.std.proofs.Common.{length}
use Rattle.guide_fast.proofs.silent.+is_stepped_silent.Given as goal

abbrev pub decreases-is_stepped_silent : goal.decreases-is_stepped_silent
decreases-is_stepped_silent l = length l.last.now
