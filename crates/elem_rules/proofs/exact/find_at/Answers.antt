use Rattle.std.proofs.Common.{refl}
use Rattle.x12_segs.specs.Words.{elements_of}
use Rattle.elem_rules.specs.Found.{texts_of}
use Rattle.elem_rules.proofs.Bounded.{rows_few}
use Rattle.elem_rules.proofs.Marks.{found_members}
use Rattle.elem_rules.proofs.Membership.{found_is, is_found, keyed}
use Rattle.elem_rules.proofs.exact.find_at.Goals as goal

pub check_extra-requires-clause-few : goal.check_extra-requires-clause-few
check_extra-requires-clause-few c = rows_few c.args.slot.now c.requires.bounded

pub returns-clause-exact : goal.returns-clause-exact
returns-clause-exact c f =
    let s = elements_of c.args.seg.now in
    let delims = c.args.seg.now.delims in
    let slot = c.args.slot.now in
    let walked = found_members delims delims s slot slot.elements (texts_of slot s) slot.conditions
    c.new-found.result c.check_rows.new.found c.check_extra.new.found c.check_conditions_at.new.found
    refl refl refl refl c.new-found.ensures c.in_ok-check_rows.ensures c.in_ok-check_extra.ensures
    c.in_ok-check_conditions_at.ensures in (
      λ h. found_is delims s slot c.requires.conditions f ((walked f).0 h),
      λ h. (walked f).1 (is_found delims s slot c.requires.conditions f h),
    )

pub returns-clause-keyed : goal.returns-clause-keyed
returns-clause-keyed c f g a b e =
    let s = elements_of c.args.seg.now in
    let delims = c.args.seg.now.delims in
    let slot = c.args.slot.now in
    let walked = found_members delims delims s slot slot.elements (texts_of slot s) slot.conditions
    c.new-found.result c.check_rows.new.found c.check_extra.new.found c.check_conditions_at.new.found
    refl refl refl refl c.new-found.ensures c.in_ok-check_rows.ensures c.in_ok-check_extra.ensures
    c.in_ok-check_conditions_at.ensures in
    keyed delims s slot c.requires.conditions f g ((walked f).0 a) ((walked g).0 b) e
