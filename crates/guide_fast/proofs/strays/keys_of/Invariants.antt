use Rattle.std.proofs.Common.{take}
use Rattle.guide_fast.specs.Listed.{Knows}
use Rattle.guide_fast.specs.Keys.{slot_keys}
use Rattle.guide_fast.specs.Slots.{lent_slots}
use Rattle.guide_fast.proofs.strays.keys_of.Given as goal

abbrev pub invariant-loop-k : goal.invariant-loop-k
invariant-loop-k l = Knows l.index.places (slot_keys (lent_slots (take l.k l.slots)))
