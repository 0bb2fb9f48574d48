use Rattle.std.proofs.Common.{◌∙◌, [], ℕ, List, ap, length, map, subst}
use Rattle.std.specs.Borrow.{Bor}
use Rattle.night_marks.specs.Order.{in_order}
use Rattle.night_marks.specs.declared.mark.NightMark.{NightMark}
use Rattle.record_review.specs.Reviewed.{AreReviewed}
use Rattle.day_command.specs.Outcome.{AreJudged}
use Rattle.day_command.proofs.run.report_of.Goals as goal

pub returns-clause-report : goal.returns-clause-report
returns-clause-report g c =
    let nights : List ℕ = c.args.nights.now in
    let marks : List (Bor NightMark) → List NightMark = λ l. map (λ (n : Bor NightMark). n.now) l in
    let order : List NightMark = marks c.in_ok-order.order.items in
    let of_nights : List ℕ = c.in_ok-report.report.text.items in
    let nights_status : ℕ = c.in_ok-report.report.status in
    let of_records : List ℕ = c.in_ok-records.records.text.items in
    let records_status : ℕ = c.in_ok-records.records.status in
    record {
      marks = c.in_ok-marks.marks.items;
      marks_are = c.in_ok-marks.ensures.nights;
      order = order;
      ordered = c.in_ok-order.ensures ∙ ap (λ (l : List NightMark). in_order (length l) [] l) c.as_slice.ensures.value;
      of_nights = of_nights;
      nights_status = nights_status;
      judged =
          subst (λ (l : List (Bor NightMark)). AreJudged nights (marks l) of_nights nights_status) c.as_slice-2.ensures.value
          (subst (λ (at : List ℕ). AreJudged at (marks c.as_slice-2.result.now) of_nights nights_status) c.as_bytes.ensures.value
          c.in_ok-report.ensures.report);
      of_records = of_records;
      records_status = records_status;
      reviewed =
          subst (λ (l : List (Bor NightMark)). AreReviewed nights (marks l) of_records records_status) c.as_slice-3.ensures.value
          (subst (λ (at : List ℕ). AreReviewed at (marks c.as_slice-3.result.now) of_records records_status) c.as_bytes-2.ensures.value
          c.in_ok-records.ensures.reviewed);
      both = c.in_ok-with_records.ensures.both;
    }
