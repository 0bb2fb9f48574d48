use Rattle.std.proofs.Common.{[], ◌≡◌, ◌∙◌, ℕ, List, ap, length, map, subst}
use Rattle.std.specs.Borrow.{Bor}
use Rattle.std.specs.List.{AllZip}
use Rattle.night_marks.specs.Count.{unarchived}
use Rattle.night_marks.specs.Order.{in_order}
use Rattle.night_marks.specs.declared.mark.NightMark.{NightMark}
use Rattle.track_read.specs.declared.night.NightTable.{NightTable}
use Rattle.day_command.specs.Tables.{IsTableAt}
use Rattle.day_command.proofs.Finding.{searched}
use Rattle.day_command.proofs.find.find_nights.Goals as goal

pub returns-clause-report : goal.returns-clause-report
returns-clause-report g c =
    let marks : List (Bor NightMark) → List NightMark = λ l. map (λ (n : Bor NightMark). n.now) l in
    let order : List NightMark = marks c.as_slice-3.result.now in
    let tables : List NightTable = c.in_ok-search.ensures.0 in
    let wanted : c.as_bytes-wanted.result.now ≡ c.args.text.now = c.as_bytes-wanted.ensures.value in
    let is = c.in_ok-search.ensures.2 in
    searched c.args.nights.now c.args.text.now c.in_ok-found.found.text.items c.status_of.result c.in_ok-marks.marks.items order tables
    c.in_ok-found.found.is_complete c.in_ok-marks.ensures.nights
    (ap marks c.as_slice-3.ensures.value ∙ c.in_ok-left.ensures
    ∙ ap unarchived (ap marks c.as_slice-2.ensures.value ∙ c.in_ok-order.ensures
    ∙ ap (λ (l : List NightMark). in_order (length l) [] l) c.as_slice.ensures.value))
    (subst (λ (at : List ℕ). AllZip (IsTableAt at) order tables) c.as_bytes-path.ensures.value c.in_ok-search.ensures.1)
    (rw wanted at (c.in_ok-found.ensures.text tables is)) (rw wanted at (c.in_ok-found.ensures.complete tables is))
    c.status_of.ensures.zero
