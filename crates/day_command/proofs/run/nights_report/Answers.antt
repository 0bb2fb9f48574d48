use Rattle.std.proofs.Common.{◌∙◌, ℕ, List, ap, map, subst}
use Rattle.std.specs.Borrow.{Bor}
use Rattle.hub_ledger.specs.declared.entry.NightEntry.{NightEntry}
use Rattle.night_marks.specs.declared.bad.BadFile.{BadFile}
use Rattle.night_marks.specs.declared.mark.NightMark.{NightMark}
use Rattle.night_review.specs.GoingOn.{IsJudged}
use Rattle.day_command.specs.Outcome.{named_last}
use Rattle.day_command.proofs.Reporting.{reported}
use Rattle.day_command.proofs.run.nights_report.Goals as goal

pub returns-clause-report : goal.returns-clause-report
returns-clause-report g c =
    let order : List NightMark = map (λ (n : Bor NightMark). n.now) c.args.order.now in
    let entries : List NightEntry = c.in_ok-entries.entries.items in
    let bad : List BadFile = c.in_ok-entries.bad.items in
    let limit : List ℕ = c.as_bytes.result.now in
    let named : List ℕ = c.named_last.result.now in
    let text : List ℕ = c.in_ok-report.report.text.items in
    let status : ℕ = c.in_ok-report.report.status in
    reported c.args.nights.now text status order c.in_ok-read_nights.field-0.items entries bad c.in_ok-last.last limit named
    c.in_ok-read_nights.ensures c.in_ok-last.ensures c.in_ok-entries.ensures.entries c.in_ok-entries.ensures.bad
    (c.named_last.ensures ∙ ap (λ (e : List NightEntry). named_last c.in_ok-last.last.bytes e) c.as_slice-3.ensures.value)
    (subst (λ (e : List NightEntry). IsJudged limit named order e bad text status) c.as_slice.ensures.value
    (subst (λ (b : List BadFile). IsJudged limit named order c.as_slice.result.now b text status) c.as_slice-2.ensures.value
    c.in_ok-report.ensures.judged))
