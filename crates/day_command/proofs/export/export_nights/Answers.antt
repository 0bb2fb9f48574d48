use Rattle.std.proofs.Common.{[], ◌∙◌, ℕ, List, ap, length, map, subst}
use Rattle.std.specs.Borrow.{Bor}
use Rattle.std.specs.List.{AllZip}
use Rattle.night_marks.specs.Count.{unarchived}
use Rattle.night_marks.specs.Order.{in_order}
use Rattle.night_marks.specs.declared.mark.NightMark.{NightMark}
use Rattle.track_read.specs.declared.night.NightTable.{NightTable}
use Rattle.day_command.specs.Tables.{IsTableAt}
use Rattle.day_command.proofs.Finding.{exported}
use Rattle.day_command.proofs.export.export_nights.Goals as goal

pub returns-clause-export : goal.returns-clause-export
returns-clause-export g c =
    let marks : List (Bor NightMark) → List NightMark = λ l. map (λ (n : Bor NightMark). n.now) l in
    let order : List NightMark = marks c.as_slice-3.result.now in
    let all = c.in_ok-export_tables.ensures in
    let tables : List NightTable = all.0 in
    exported c.args.nights.now c.args.form c.in_ok-export_tables.field-0 c.in_ok-marks.marks.items order tables c.in_ok-marks.ensures.nights
    (ap marks c.as_slice-3.ensures.value ∙ c.in_ok-left.ensures
    ∙ ap unarchived (ap marks c.as_slice-2.ensures.value ∙ c.in_ok-order.ensures
    ∙ ap (λ (l : List NightMark). in_order (length l) [] l) c.as_slice.ensures.value))
    (subst (λ (at : List ℕ). AllZip (IsTableAt at) order tables) c.as_bytes.ensures.value all.1) all.2
