use Rattle.std.proofs.Common.{◌≡◌, take}
use Rattle.guide_fast.specs.Slots.{lent_slots}
use Rattle.guide_fast.specs.FirstPick.{slot_picks}
use Rattle.guide_fast.proofs.strays.picks_of.Given as goal

-- the picks of the slots so far
abbrev pub invariant-loop-k : goal.invariant-loop-k
invariant-loop-k l = l.picks.items ≡ slot_picks (lent_slots (take l.k l.slots))
