use Rattle.std.proofs.Common.{ℕ, List, Option, ◌∙◌, ◌++◌, ap, map, refl, subst, sym}
use Rattle.std.specs.Borrow.{Bor}
use Rattle.std.specs.Prelude.{option_map}
use Rattle.csv.specs.Records.{fields_of}
use Rattle.night_folder.specs.Files.{bytes_or_none, first_line}
use Rattle.night_page.specs.Page.{IsPage}
use Rattle.night_page.specs.declared.record.RecordShown.{RecordShown}
use Rattle.day_command.proofs.Paging.{same_value, value}
use Rattle.day_command.proofs.page.report_of.Goals as goal

pub returns-clause-page : goal.returns-clause-page
returns-clause-page c =
    let name : List ℕ = c.args.name.now in
    let papers = c.args.papers.now in
    let rows = map fields_of c.args.rows.now in
    let partners = c.args.partners.now in
    let head : List ℕ = c.as_bytes.result.now in
    let foot : List ℕ = c.as_bytes-2.result.now in
    let files : Option (List ℕ) = option_map (λ (b : Bor (List ℕ)). b.now) c.bytes-files.result in
    let seen : Option RecordShown = option_map (λ (r : Bor RecordShown). r.now) c.as_ref-record.result in
    let moment : List ℕ = c.first_line.result.now in
    let total : List ℕ = c.first_line-2.result.now in
    let made = value name moment total files c.as_slice.result.now rows partners seen in
    let page = c.in_ok-todo.ensures.page in
    let todo = c.in_ok-todo.ensures.todo in
    let text_is = page.1 ∙ ap (λ (old : List ℕ). old ++ page.0) c.new-text.ensures.items in
    record {
      value = made;
      value_is =
          same_value name name moment (first_line (bytes_or_none papers.at.bytes)) total (first_line (bytes_or_none papers.total.bytes))
          files papers.files.bytes c.as_slice.result.now papers.inner.items rows rows partners partners seen papers.record refl
          (c.first_line.ensures ∙ ap first_line c.bytes_or_none.ensures) (c.first_line-2.ensures ∙ ap first_line c.bytes_or_none-2.ensures)
          c.bytes-files.ensures c.as_slice.ensures.value refl refl c.as_ref-record.ensures.value;
      head = head;
      foot = foot;
      page = subst (λ (t : List ℕ). IsPage head foot made t) (sym text_is) page.2;
      todo = (λ one. sym todo ∙ c.status_of.ensures.one.0 one, λ has. c.status_of.ensures.one.1 (todo ∙ has));
    }
