use Rattle.std.proofs.Common.{◌≡◌, drop}
use Rattle.work_core.specs.Once.{none_beyond}
use Rattle.work_core.proofs.complete.is_none_beyond.Given as goal

abbrev pub invariant-loop-other : goal.invariant-loop-other
invariant-loop-other l = none_beyond l.count (drop l.other-index l.finished) ≡ none_beyond l.count l.finished
