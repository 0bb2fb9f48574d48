use Rattle.std.proofs.Common.{◌++◌, ◌∙◌, List, ap, ap₂, sym}
use Rattle.std.proofs.lemmas.Result.{IfOk-weaker}
use Rattle.record_review.specs.Reviewed.{are_unread, first_of}
use Rattle.record_review.specs.declared.read.BadRecord.{BadRecord}
use Rattle.record_review.proofs.Reviewing.{clean_by, text_by}
use Rattle.record_review.proofs.review.reviewed.Goals as goal

pub returns-clause-text : goal.returns-clause-text
returns-clause-text c =
    let some =
    sym (ap₂ are_unread c.as_slice.ensures.value c.as_slice-2.ensures.value) ∙ sym c.none_read.ensures ∙ c.if-none_read.false in
    let bad =
    c.as_slice-5.ensures.value ∙ c.in_ok-bad.ensures
    ∙ ap₂ (λ (a b : List BadRecord). a ++ b) c.in_ok-archived.ensures.bad c.in_ok-nights.ensures.bad in
    let before = c.first_of-before.ensures ∙ ap first_of (c.as_slice-3.ensures.value ∙ c.in_ok-archived.ensures.nights) in
    let nights = c.as_slice-4.ensures.value ∙ c.in_ok-nights.ensures.nights in
    IfOk-weaker c.report_of.result _ _
    (λ report is. text_by c.args.first.items c.args.reads.items c.as_slice-5.result.now _ c.as_slice-4.result.now report.text.items some bad
    before nights is)
    c.report_of.ensures.text

pub returns-clause-clean : goal.returns-clause-clean
returns-clause-clean c =
    let some =
    sym (ap₂ are_unread c.as_slice.ensures.value c.as_slice-2.ensures.value) ∙ sym c.none_read.ensures ∙ c.if-none_read.false in
    let bad =
    c.as_slice-5.ensures.value ∙ c.in_ok-bad.ensures
    ∙ ap₂ (λ (a b : List BadRecord). a ++ b) c.in_ok-archived.ensures.bad c.in_ok-nights.ensures.bad in
    let before = c.first_of-before.ensures ∙ ap first_of (c.as_slice-3.ensures.value ∙ c.in_ok-archived.ensures.nights) in
    let nights = c.as_slice-4.ensures.value ∙ c.in_ok-nights.ensures.nights in
    IfOk-weaker c.report_of.result _ _
    (λ report is. clean_by c.args.first.items c.args.reads.items c.as_slice-5.result.now _ c.as_slice-4.result.now report.status some bad
    before nights is)
    c.report_of.ensures.clean
