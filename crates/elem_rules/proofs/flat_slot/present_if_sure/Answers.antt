use Rattle.std.proofs.Common.{◌≡◌, ◌<◌, ◌+◌, List, ℕ, length, get_or, true, false, arith, sym, subst, ◌∙◌}
use Rattle.std.specs.List.{list_any}
use Rattle.std.proofs.lemmas.Option.{slice_get-get_or}
use Rattle.x12_segs.specs.Words.{elements_of}
use Rattle.elem_rules.specs.declared.flat_row.FlatKind.TheVariants as kind
use Rattle.elem_rules.specs.declared.flat_row.FlatRow.{FlatRow}
use Rattle.elem_rules.specs.Clean.{is_strange}
use Rattle.elem_rules.proofs.FlatSlots.{nth_at, filled_more}
use Rattle.elem_rules.proofs.Looks.{bits_more, on_true}
use Rattle.elem_rules.proofs.Plain.{narrow_part}
use Rattle.elem_rules.proofs.Steps.{nth-more}
use Rattle.elem_rules.proofs.flat_slot.present_if_sure.Goals as goal

pub fits_by-requires-clause-narrow : goal.fits_by-requires-clause-narrow
fits_by-requires-clause-narrow c =
    let seg = c.args.seg.now in
    subst (λ (t : List ℕ). list_any is_strange t ≡ false) (sym c.element_behind-text.ensures)
    (narrow_part true seg.delims.element seg.bytes (c.loop-k.k + 1) c.requires.narrow)

pub fits_by-requires-clause-flat : goal.fits_by-requires-clause-flat
fits_by-requires-clause-flat c =
    let k = c.loop-k.k in
    let rows = c.args.rows.now in
    let flat = c.args.flat.now in
    let d : FlatRow = record { least = 0; span = 0; from = 0; count = 0; kind = kind.Any } in
    let within : k < length rows = omega (arith, c.requires.few, c.loop-k-test.true) in
    let there : k < length flat = omega (arith, c.requires.many, within) in
    c.requires.each (k + 1) (get_or flat k d) c.index-rows-k.result (nth-more flat k ∙ slice_get-get_or flat k d there)
    (nth_at rows k c.index-rows-k.result within c.index-rows-k.is)

pub loop-k-preserved : goal.loop-k-preserved
loop-k-preserved c =
    let s = elements_of c.args.seg.now in
    let k = c.loop-k.k in
    let text = c.element_behind-text.result.now in
    record {
      fit = filled_more c.args.rows.now s k c.index-rows-k.result text (omega (arith, c.requires.few, c.loop-k-test.true)) c.index-rows-k.is
          c.element_behind-text.ensures (on_true c.fits_by.result c.if-not-fits_by.false c.fits_by.ensures) c.loop-k.invariant.fit;
      bits = bits_more s k c.loop-k.present text c.is_empty.result c.marked-present.result c.element_behind-text.ensures
          c.loop-k.invariant.bits c.is_empty.ensures c.marked-present.ensures;
    }
