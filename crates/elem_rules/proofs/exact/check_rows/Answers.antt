use Rattle.std.proofs.Common.{◌<◌, ◌+◌, List, [], length, get_or, arith, sym, subst, ap, ◌∙◌}
use Rattle.std.specs.Prelude.{IsTrue}
use Rattle.std.specs.List.{All}
use Rattle.std.specs.Option.{option_map_or}
use Rattle.std.proofs.lemmas.List.Elements.{All-get_or}
use Rattle.x12_segs.specs.Words.{elements_of}
use Rattle.guide_tree.specs.declared.element.Element.{Element}
use Rattle.guide_tree.specs.Words.{is_element_bounded}
use Rattle.elem_rules.specs.declared.flat_row.FlatKind.TheVariants as kind
use Rattle.elem_rules.specs.declared.flat_row.FlatRow.{FlatRow}
use Rattle.elem_rules.specs.Rows.{nth}
use Rattle.elem_rules.specs.Found.{text_at, texts_of, element_found}
use Rattle.elem_rules.proofs.Agreeing.{text_of_row}
use Rattle.elem_rules.proofs.Bounded.{rows_few, rows_bounded}
use Rattle.elem_rules.proofs.FlatSlots.{flat_at}
use Rattle.elem_rules.proofs.Steps.{up_to_more, row_more}
use Rattle.elem_rules.proofs.exact.check_rows.Goals as goal

pub check_row-requires-clause-bounded : goal.check_row-requires-clause-bounded
check_row-requires-clause-bounded c =
    let bounded : All (λ row. IsTrue (is_element_bounded row)) c.as_slice-rows.result.now =
    subst (λ (rows : List Element). All (λ row. IsTrue (is_element_bounded row)) rows) (sym c.as_slice-rows.ensures)
    (rows_bounded c.args.slot.now c.requires.bounded) in
    subst (λ (row : Element). IsTrue (is_element_bounded row)) (sym c.index-rows-k.is)
    (All-get_or (λ row. IsTrue (is_element_bounded row)) c.as_slice-rows.result.now c.loop-k.k c.index-rows-k.result
    (omega (arith, c.loop-k-test.true)) bounded)

pub check_row-requires-clause-few : goal.check_row-requires-clause-few
check_row-requires-clause-few c =
    omega (arith, rows_few c.args.slot.now c.requires.bounded, ap length c.as_slice-rows.ensures, c.loop-k-test.true)

pub check_row-requires-clause-flat : goal.check_row-requires-clause-flat
check_row-requires-clause-flat c =
    let d : FlatRow = record { least = 0; span = 0; from = 0; count = 0; kind = kind.Any } in
    flat_at c.as_slice-known.result.now c.as_slice-rows.result.now c.as_slice-numbers.result.now d c.index-rows-k.result c.loop-k.k
    (rw (c.as_slice-rows.ensures, c.as_slice-known.ensures.value) c.requires.flat.many)
    (rw (c.as_slice-rows.ensures, c.as_slice-known.ensures.value, c.as_slice-numbers.ensures.value) c.requires.flat.each)
    c.loop-k-test.true c.index-rows-k.is

pub loop-k-preserved : goal.loop-k-preserved
loop-k-preserved c =
    let delims = c.args.seg.now.delims in
    let slot = c.args.slot.now in
    let s = elements_of c.args.seg.now in
    let k = c.loop-k.k in
    let x = c.index-rows-k.result in
    let within : k < length slot.elements = omega (arith, ap length c.as_slice-rows.ensures, c.loop-k-test.true) in
    let row = row_more slot.elements (λ row. element_found delims (k + 1) row (text_at (texts_of slot s) (k + 1))) k x within
    (c.index-rows-k.is ∙ ap (λ (rows : List Element). get_or rows k x) c.as_slice-rows.ensures) in
    up_to_more
    (λ n. option_map_or (λ row. element_found delims n row (text_at (texts_of slot s) n)) (nth slot.elements n) [])
    k c.args.found.now c.loop-k.found _ _ c.loop-k.invariant c.in_ok-check_row.ensures
    (ap (λ t. element_found delims (k + 1) x t) (sym (text_of_row slot s (k + 1) (omega arith) (omega (arith, within)))) ∙ sym row)
