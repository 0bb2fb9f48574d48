use Rattle.std.proofs.Common.{◌∙◌, List, ap, map, subst}
use Rattle.std.proofs.lemmas.Result.{IfOk-weaker}
use Rattle.std.specs.Borrow.{Bor}
use Rattle.std.specs.List.{AllZip}
use Rattle.night_marks.specs.declared.mark.NightMark.{NightMark}
use Rattle.record_review.specs.Records.{IsRecordRead}
use Rattle.record_review.proofs.review.read_unarchived.Goals as goal

pub returns : goal.returns
returns g c =
    let marks : List (Bor NightMark) → List NightMark = λ l. map (λ (n : Bor NightMark). n.now) l in
    IfOk-weaker c.read_records.result _ _
    (λ reads by. subst (λ (l : List NightMark). AllZip (IsRecordRead c.args.nights.now) l reads.items)
    (ap marks c.as_slice.ensures.value ∙ c.in_ok-marks.ensures) by)
    c.read_records.ensures
