use Rattle.std.proofs.Common.{◌≡◌, take}
use Rattle.guide_fast.specs.FirstPick.{begin_picks}
use Rattle.guide_fast.proofs.first_pick.begin_picks.Given as goal

-- the picks of the nodes so far
abbrev pub invariant-loop-k : goal.invariant-loop-k
invariant-loop-k l = l.picks.items ≡ begin_picks (take l.k l.nodes)
