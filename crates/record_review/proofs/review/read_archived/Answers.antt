use Rattle.std.proofs.Common.{◌∙◌, ℕ, List, ap, map, subst}
use Rattle.std.proofs.lemmas.Result.{IfOk-weaker}
use Rattle.std.specs.Borrow.{Bor}
use Rattle.std.specs.List.{AllZip}
use Rattle.night_marks.specs.Count.{archived}
use Rattle.night_marks.specs.declared.mark.NightMark.{NightMark}
use Rattle.record_review.specs.Records.{IsRecordRead}
use Rattle.record_review.proofs.review.read_archived.Goals as goal

pub returns : goal.returns
returns g c =
    let marks : List (Bor NightMark) → List NightMark = λ l. map (λ (n : Bor NightMark). n.now) l in
    let order : List NightMark = archived (marks c.args.order.now) in
    IfOk-weaker c.read_records.result _ _
    (λ reads by. subst (λ (home : List ℕ). AllZip (IsRecordRead home) order reads.items) (c.as_slice.ensures ∙ c.in_ok-home.ensures)
    (subst (λ (l : List NightMark). AllZip (IsRecordRead c.as_slice.result.now) l reads.items)
    (ap marks c.as_slice-2.ensures.value ∙ c.in_ok-marks.ensures) by))
    c.read_records.ensures
