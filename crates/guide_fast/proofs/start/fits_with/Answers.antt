use Rattle.std.proofs.Common.{◌≡◌, [], sym, ◌∙◌}
use Rattle.x12_segs.specs.Words.{elements_of}
use Rattle.guide_fast.proofs.IdNumbers.{fits_there, none_in}
use Rattle.guide_fast.proofs.start.fits_with.Goals as goal

pub returns-then-is_empty : goal.returns-then-is_empty
returns-then-is_empty c =
    let none : c.args.slot.now.picks ≡ [] =
    sym c.as_slice.ensures ∙ none_in c.as_slice.result.now (sym c.is_empty.ensures ∙ c.if-is_empty.true) in
    fits_there (elements_of c.args.seg.now) c.args.slot.now c.args.number c.requires.segment c.requires.slot c.if-number-ne0.true none
