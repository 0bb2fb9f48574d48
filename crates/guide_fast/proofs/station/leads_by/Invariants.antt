use Rattle.std.proofs.Common.{◌≡◌, take}
use Rattle.loop_match.specs.Steps.{place_view}
use Rattle.guide_fast.specs.Ahead.{children_of}
use Rattle.guide_fast.proofs.station.leads_by.Given as goal

abbrev pub invariant-loop-k : goal.invariant-loop-k
invariant-loop-k l = children_of (place_view (take l.k l.last)) ≡ take l.k l.path
