use Rattle.std.proofs.Common.{List, Bool, ◌<◌, length, ap, sym, subst, ◌∙◌}
use Rattle.std.specs.Prelude.{◌&&◌}
use Rattle.std.specs.List.{list_all}
use Rattle.guide_tree.specs.declared.element.Element.{Element}
use Rattle.guide_tree.specs.Conditions.{has_row}
use Rattle.guide_tree.proofs.Few.{not_distinct}
use Rattle.guide_tree.proofs.conditions.are_rows_once.Goals as goal

pub returns-then-positions-as_slice : goal.returns-then-positions-as_slice
returns-then-positions-as_slice c =
    let slot = c.args.slot.now in
    let positions = c.args.positions.now in
    let twice = not_distinct slot positions (sym c.have_rows.ensures ∙ c.if-not-have_rows.false)
    (subst (λ (rows : List Element). length rows < length positions) c.as_slice.ensures c.if-positions-as_slice.true) in
    sym (ap (λ (b : Bool). b && list_all (has_row slot) positions) twice)
