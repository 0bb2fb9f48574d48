use Rattle.std.proofs.Common.{◌≡◌, ◌+◌, ℕ, List, true, false, sym, subst, ap, ◌∙◌}
use Rattle.std.specs.List.{list_any}
use Rattle.x12_segs.specs.Words.{elements_of}
use Rattle.guide_tree.specs.Words.{element_at}
use Rattle.elem_rules.specs.Clean.{fits, is_strange}
use Rattle.elem_rules.proofs.Doubtful.{nothing_added}
use Rattle.elem_rules.proofs.Looks.{on_true}
use Rattle.elem_rules.proofs.Plain.{neither_found, narrow_part, plain_part}
use Rattle.elem_rules.proofs.exact.check_row.Goals as goal

pub fits_flat-requires-clause-narrow : goal.fits_flat-requires-clause-narrow
fits_flat-requires-clause-narrow c =
    let seg = c.args.seg.now in
    subst (λ (t : List ℕ). list_any is_strange t ≡ false) (sym c.element_or_empty-text.ensures)
    (narrow_part true seg.delims.element seg.bytes (c.args.k + 1) (neither_found seg.delims seg.bytes c.requires.plain).1)

pub returns-then-fits_flat : goal.returns-then-fits_flat
returns-then-fits_flat c =
    let seg = c.args.seg.now in
    nothing_added seg.delims (c.args.k + 1) c.args.row.now (element_at (elements_of seg) (c.args.k + 1)) c.args.found.now c.requires.bounded
    (plain_part seg.delims seg.delims.element seg.bytes (c.args.k + 1) (neither_found seg.delims seg.bytes c.requires.plain).0)
    (ap (fits c.args.row.now) (sym c.element_or_empty-text.ensures) ∙ on_true c.fits_flat.result c.if-fits_flat.true c.fits_flat.ensures)
