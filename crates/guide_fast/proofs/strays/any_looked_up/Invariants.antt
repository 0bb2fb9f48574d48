use Rattle.std.proofs.Common.{◌≡◌, false}
use Rattle.x12_segs.specs.Words.{elements_of}
use Rattle.guide_fast.specs.Slots.{lent_slots}
use Rattle.guide_fast.proofs.Strayed.{any_told}
use Rattle.guide_fast.proofs.strays.any_looked_up.Given as goal

-- by the elements so far it fits none
abbrev pub invariant-loop-position : goal.invariant-loop-position
invariant-loop-position l = any_told (elements_of l.seg) l.position (lent_slots l.slots) ≡ false
