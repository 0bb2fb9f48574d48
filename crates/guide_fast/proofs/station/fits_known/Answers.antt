use Rattle.x12_segs.specs.Words.{elements_of}
use Rattle.guide_fast.proofs.IdNumbers.{no_fit_there}
use Rattle.guide_fast.proofs.station.fits_known.Goals as goal

pub returns-then-known-number : goal.returns-then-known-number
returns-then-known-number c =
    no_fit_there (elements_of c.args.seg.now) c.args.known.now.slot.now c.args.known.now.number c.args.number c.requires.segment
    c.requires.numbered c.if-known-number.true
