use Rattle.std.proofs.Common.{◌+◌, [], arith, sym, ap, ◌∙◌}
use Rattle.std.specs.Option.{option_map_or}
use Rattle.elem_rules.specs.Rows.{nth}
use Rattle.elem_rules.specs.Found.{read, text_at, element_found}
use Rattle.elem_rules.proofs.Steps.{up_to_more, row_more}
use Rattle.elem_rules.proofs.check.check_rows.Goals as goal

pub loop-k-preserved : goal.loop-k-preserved
loop-k-preserved c =
    let of = c.args.of.now in
    let k = c.loop-k.k in
    let texts = read of.texts.now in
    let row = row_more of.rows.now (λ row. element_found of.delims (k + 1) row (text_at texts (k + 1))) k c.index-of-k.result
    (omega arith) c.index-of-k.is in
    up_to_more
    (λ n. option_map_or (λ row. element_found of.delims n row (text_at texts n)) (nth of.rows.now n) [])
    k c.args.found.now c.loop-k.found _ _ c.loop-k.invariant c.in_ok-check_element.ensures
    (ap (λ row. element_found of.delims (k + 1) row c.text_at.result.now) (sym c.index-of-k.is)
    ∙ ap (λ t. element_found of.delims (k + 1) c.index-of-k.result t) c.text_at.ensures ∙ sym row)
