use Rattle.std.proofs.Common.{◌≡◌, ◌+◌, [], arith, sym, ap, ◌∙◌}
use Rattle.std.specs.Option.{option_map_or}
use Rattle.x12_segs.specs.Words.{components}
use Rattle.elem_rules.specs.Divided.{component_in}
use Rattle.elem_rules.specs.Rows.{nth}
use Rattle.elem_rules.specs.Found.{component_found}
use Rattle.elem_rules.proofs.Steps.{up_to_more, row_more, left_more, text_more}
use Rattle.elem_rules.proofs.occurrence.check_components.Goals as goal

pub loop-m-preserved : goal.loop-m-preserved
loop-m-preserved c =
    let at = c.args.at.now in
    let m = c.loop-m.m in
    let all = components at.delims at.text.now in
    let text : c.next_part-text.result.now ≡ component_in at.delims at.text.now (m + 1) =
    text_more all c.loop-m.parts _ m c.loop-m.invariant.left c.next_part-text.ensures.text in
    let row = row_more c.args.rows.now (λ row. component_found at.delims at.element at.repetition (m + 1) row
    (component_in at.delims at.text.now (m + 1))) m c.index-rows-m.result (omega arith) c.index-rows-m.is in
    let is = ap (λ t. component_found at.delims at.element at.repetition (m + 1) c.index-rows-m.result t) text ∙ sym row in
    record {
      left = left_more all c.loop-m.parts _ m c.loop-m.invariant.left c.next_part-text.ensures.rest;
      found = up_to_more
          (λ k. option_map_or (λ row. component_found at.delims at.element at.repetition k row (component_in at.delims at.text.now k))
          (nth c.args.rows.now k) [])
          m c.args.found.now c.loop-m.found _ _ c.loop-m.invariant.found c.in_ok-check_component.ensures is;
    }
