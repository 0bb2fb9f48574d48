use Rattle.std.proofs.Common.{take}
use Rattle.guide_fast.specs.Listed.{Knows}
use Rattle.guide_fast.specs.Slots.{lent_slots, slot_ids}
use Rattle.guide_fast.proofs.strays.ids_of.Given as goal

abbrev pub invariant-loop-k : goal.invariant-loop-k
invariant-loop-k l = Knows l.index.places (slot_ids (lent_slots (take l.k l.slots)))
