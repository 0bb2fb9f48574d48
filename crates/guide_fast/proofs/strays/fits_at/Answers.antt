use Rattle.std.proofs.Common.{ap, sym, ◌∙◌}
use Rattle.std.proofs.lemmas.Bool.{ltb-true}
use Rattle.x12_segs.specs.Words.{elements_of}
use Rattle.guide_fast.specs.Slots.{fits_it}
use Rattle.guide_fast.proofs.SlotPicks.{slot_there, slot_past, pick_there}
use Rattle.guide_fast.proofs.strays.fits_at.Goals as goal

pub fits_picked-requires-clause-pick : goal.fits_picked-requires-clause-pick
fits_picked-requires-clause-pick c =
    pick_there c.args.slots.now c.args.picks.now c.args.place c.in-Some.slot.now _
    (ltb-true _ _ (sym c.in-Some.ensures.lookup.0)) c.in-Some.ensures.lookup.1 c.requires.picks

pub returns-in-None-clause-fits : goal.returns-in-None-clause-fits
returns-in-None-clause-fits c =
    sym (ap (fits_it (elements_of c.args.seg.now)) (slot_past c.args.slots.now c.args.place c.in-None.ensures.lookup.3))

pub returns-in-Some-clause-fits : goal.returns-in-Some-clause-fits
returns-in-Some-clause-fits c =
    c.fits_picked.ensures.fits ∙ sym (ap (fits_it (elements_of c.args.seg.now))
    (slot_there c.args.slots.now c.args.place c.in-Some.slot.now (ltb-true _ _ (sym c.in-Some.ensures.lookup.0))
    c.in-Some.ensures.lookup.1))
