use Rattle.std.proofs.Common.{◌≡◌, drop}
use Rattle.x12_segs.specs.Words.{elements_of}
use Rattle.guide_fast.specs.FirstPick.{HasValue}
use Rattle.guide_fast.specs.Slots.{any_listed, lent_slots}
use Rattle.guide_fast.proofs.strays.any_fits.Given as goal

abbrev pub invariant-loop-i : goal.invariant-loop-i
invariant-loop-i l =
    (any_listed (elements_of l.seg) (lent_slots l.slots) (drop l.i l.places) ≡ any_listed (elements_of l.seg) (lent_slots l.slots) l.places)
    × HasValue (elements_of l.seg) l.asked
