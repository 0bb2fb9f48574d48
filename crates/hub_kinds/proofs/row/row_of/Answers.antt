use Rattle.std.proofs.Common.{◌∙◌}
use Rattle.hub_kinds.proofs.Rows.{pair_kept}
use Rattle.hub_kinds.proofs.row.row_of.Goals as goal

pub returns-in-None-clause-row : goal.returns-in-None-clause-row
returns-in-None-clause-row c =
    let there = c.in_ok-place.ensures.there in
    c.segment_row.ensures c.index_of.new.texts.pairs.items c.in-None.is there.within (there.is_first ∙ c.bytes.ensures)
    (there.is_second ∙ c.bytes-2.ensures)

pub returns-in_ok-value-in-Some-clause-row : goal.returns-in_ok-value-in-Some-clause-row
returns-in_ok-value-in-Some-clause-row c =
    let pairs = c.index_of-in-Some.new.texts.pairs.items in
    let value = c.in_ok-value-in-Some.ensures.there in
    let place = pair_kept c.index_of.new.texts.pairs.items pairs c.in_ok-place.place _ _ c.in_ok-value-in-Some.ensures.grown
    c.in_ok-place.ensures.there in
    c.element_row.ensures pairs c.in-Some.is place.within value.within (place.is_first ∙ c.bytes.ensures)
    (place.is_second ∙ c.bytes-2.ensures) (value.is_first ∙ c.bytes-in-Some.ensures) (value.is_second ∙ c.bytes-in-Some-2.ensures)
