use Rattle.std.proofs.Common.{◌≡◌, drop}
use Rattle.cut_plan.specs.Plan.{rises_from}
use Rattle.cut_plan.proofs.places.is_rising.Given as goal

abbrev pub invariant-loop-place : goal.invariant-loop-place
invariant-loop-place l = rises_from l.last (drop l.place-index l.places) ≡ rises_from 0 l.places
