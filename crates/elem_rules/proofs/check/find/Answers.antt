use Rattle.std.proofs.Common.{length, take, drop, ap, ◌∙◌}
use Rattle.std.specs.List.{Contains}
use Rattle.hub_kinds.specs.declared.fault.ElemFault.{ElemFault}
use Rattle.x12_segs.specs.Words.{elements_of}
use Rattle.elem_rules.specs.Found.{read, found}
use Rattle.elem_rules.proofs.Looks.{texts_few}
use Rattle.elem_rules.proofs.Marks.{found_members, rows_listed}
use Rattle.elem_rules.proofs.Membership.{found_is, is_found, keyed}
use Rattle.elem_rules.proofs.Bounded.{rows_few, rows_bounded}
use Rattle.elem_rules.proofs.check.find.Goals as goal

pub check_rows-requires-clause-few : goal.check_rows-requires-clause-few
check_rows-requires-clause-few c = rw c.as_slice-rows.ensures (rows_few c.args.slot.now c.requires.bounded)

pub check_rows-requires-clause-bounded : goal.check_rows-requires-clause-bounded
check_rows-requires-clause-bounded c = rw c.as_slice-rows.ensures (rows_bounded c.args.slot.now c.requires.bounded)

pub check_extra-requires : goal.check_extra-requires
check_extra-requires c = rows_few c.args.slot.now c.requires.bounded

-- what was found holds what the definition of the walk holds
walked : (c : goal.After-drop-texts-2) → (f : ElemFault)
    → (Contains c.check_conditions.new.found f → Contains (found c.args.seg.now.delims (elements_of c.args.seg.now) c.args.slot.now) f)
    × (Contains (found c.args.seg.now.delims (elements_of c.args.seg.now) c.args.slot.now) f → Contains c.check_conditions.new.found f)
walked c =
    let slot = c.args.slot.now in
    let s = elements_of c.args.seg.now in
    found_members c.args.seg.now.delims c.delims.result s slot c.as_slice-rows.result.now
    (read c.as_slice.result.now) c.as_slice-2.result.now
    c.new-found.result c.check_rows.new.found c.check_extra.new.found c.check_conditions.new.found
    c.delims.ensures c.as_slice-rows.ensures c.as_slice-2.ensures
    (ap read c.as_slice.ensures.value ∙ c.in_ok-texts.ensures ∙ ap (λ rows. take (length rows) (drop 1 s)) c.as_slice-rows.ensures)
    c.new-found.ensures c.in_ok-check_rows.ensures c.in_ok-check_extra.ensures c.in_ok-check_conditions.ensures

pub returns-clause-exact : goal.returns-clause-exact
returns-clause-exact c f =
    let s = elements_of c.args.seg.now in
    let delims = c.args.seg.now.delims in
    let slot = c.args.slot.now in (
      λ h. found_is delims s slot c.requires.conditions f ((walked c f).0 h),
      λ h. (walked c f).1 (is_found delims s slot c.requires.conditions f h),
    )

pub returns-clause-keyed : goal.returns-clause-keyed
returns-clause-keyed c f g a b e =
    keyed c.args.seg.now.delims (elements_of c.args.seg.now) c.args.slot.now c.requires.conditions f g ((walked c f).0 a)
    ((walked c g).0 b) e

pub check_conditions-requires-clause-texts : goal.check_conditions-requires-clause-texts
check_conditions-requires-clause-texts c =
    texts_few c.as_slice.result.now c.in_ok-texts.texts.items c.args.slot.now.elements c.as_slice-rows.result.now
    (elements_of c.args.seg.now)
    (rows_few c.args.slot.now c.requires.bounded) c.as_slice-rows.ensures c.as_slice.ensures.value c.in_ok-texts.ensures

pub check_conditions-requires-clause-rows : goal.check_conditions-requires-clause-rows
check_conditions-requires-clause-rows c = rw c.as_slice-rows.ensures (rows_few c.args.slot.now c.requires.bounded)

pub check_conditions-requires-clause-positions : goal.check_conditions-requires-clause-positions
check_conditions-requires-clause-positions c =
    rows_listed c.args.slot.now c.as_slice-rows.result.now c.as_slice-2.result.now c.as_slice-rows.ensures c.as_slice-2.ensures
    c.requires.conditions
