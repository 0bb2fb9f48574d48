use Rattle.std.proofs.Common.{List, ℕ, ◌≡◌, ◌∙◌, ap₂, map, subst, true}
use Rattle.csv.specs.Records.{fields_of}
use Rattle.csv.specs.declared.record.ByteRecord.{ByteRecord}
use Rattle.system_io.specs.Outbox.{path_in}
use Rattle.night_page.specs.Totals.{gives_totals}
use Rattle.night_page.specs.declared.told.PartnerTold.{PartnerTold}
use Rattle.track_read.specs.declared.night.TableState.{TableState}
use Rattle.day_command.specs.Page.{IsPageOf, total_of}
use Rattle.day_command.specs.Tables.{IsStateAt}
use Rattle.day_command.proofs.Paging.{paged}
use Rattle.day_command.proofs.page.page_of.Goals as goal

pub returns-clause-report : goal.returns-clause-report
returns-clause-report g c =
    let nights : List ℕ = c.args.nights.now in
    let name : List ℕ = c.args.name.now in
    let folder : List ℕ = c.as_slice-night.result.now in
    let papers = c.in_ok-papers.papers in
    let rows = c.in-Rows.rows in
    let partners : List PartnerTold = c.in_ok-partners.partners.items in
    let text : List ℕ = c.in_ok-report.report.text.items in
    let status : ℕ = c.in_ok-report.report.status in
    paged nights name folder papers rows partners text status
    (c.as_slice-night.ensures.value ∙ c.in_ok-path.ensures ∙ ap₂ path_in c.as_bytes.ensures.value c.as_bytes-2.ensures.value)
    c.in_ok-papers.ensures.papers (subst (λ (s : TableState). IsStateAt folder s) c.in-Rows.is c.in_ok-rows.ensures)
    (subst (λ (l : List ByteRecord). gives_totals (total_of papers.total) (map fields_of l) ≡ true) c.as_slice.ensures.value
    c.in_ok-papers.ensures.totals) c.in_ok-partners.ensures.told
    (subst (λ (n : List ℕ). IsPageOf n papers (map fields_of rows.items) partners text status) c.as_bytes-3.ensures.value
    (subst (λ (l : List ByteRecord). IsPageOf c.as_bytes-3.result.now papers (map fields_of l) partners text status)
    c.as_slice-2.ensures.value
    (subst (λ (l : List PartnerTold). IsPageOf c.as_bytes-3.result.now papers (map fields_of c.as_slice-2.result.now) l text status)
    c.as_slice-3.ensures.value c.in_ok-report.ensures.page)))
