use Rattle.std.proofs.Common.{ℕ, Bool, List, ◌∙◌, ◌||◌, ◌++◌, ap, ap₂, not, refl, sym}
use Rattle.std.specs.List.{filter_map}
use Rattle.night_search.specs.Lines.{read}
use Rattle.night_page.specs.Causes.{cause_of}
use Rattle.night_page.specs.Files.{files_part, lines_of}
use Rattle.night_page.specs.Names.{is_filled, texts_of}
use Rattle.night_page.specs.Page.{counts_part, is_all_inside, is_calm, page_text, partners_part, sets_part, title_part, todo_part}
use Rattle.night_page.specs.Page.{told_part}
use Rattle.night_page.specs.Page.{value_of}
use Rattle.night_page.specs.Record.{record_part}
use Rattle.night_page.specs.declared.name.Name.{Name}
use Rattle.night_page.proofs.Causing.{filled, same_filled, texts_filled}
use Rattle.night_page.proofs.Growing.{two}
use Rattle.night_page.proofs.page.append_page.Goals as goal

pub append_files-requires : goal.append_files-requires
append_files-requires c = ap read c.as_slice-3.ensures.value ∙ c.in_ok-lines.ensures

pub returns-clause-page : goal.returns-clause-page
returns-clause-page c =
    let value = value_of c.args.night.now in
    let rows = value.rows in
    let partners = value.partners in
    let inner : List (List ℕ) = value.inner in
    let inside = is_all_inside value.total in
    let lines : List (List ℕ) = lines_of value.files in
    let causes = c.in_ok-causes.causes.items in
    let todo =
    ap₂ (λ (i : Bool) (l : List Name). todo_part i (read c.as_slice.result.now) inner rows l) c.is_all_inside-inside.ensures
    c.as_slice-2.ensures.value
    ∙ ap (λ (l : List (List ℕ)). todo_part inside l inner rows causes) (ap read c.as_slice.ensures.value ∙ c.in_ok-lines.ensures) in
    let end : List ℕ = c.append_fixed-2.new.out.items in
    let foot : List ℕ = c.args.foot.now in
    let last : List ℕ = record_part value.shown ++ foot in
    let sets : List ℕ = sets_part rows ++ last in
    let after_told : List ℕ = partners_part rows partners ++ sets in
    let after_files : List ℕ = told_part partners ++ after_told in
    let after_todo : List ℕ = files_part value.files ++ after_files in
    let todo_text : List ℕ = todo_part inside lines inner rows causes in (
      page_text c.args.head.now foot value causes,
      two c.args.out.now.items c.append_fixed.new.out.items end c.args.head.now
          (title_part value ++ (counts_part rows ++ (todo_text ++ after_todo))) c.in_ok-append_fixed.ensures
          (two c.append_fixed.new.out.items c.append_title.new.out.items end (title_part value)
          (counts_part rows ++ (todo_text ++ after_todo))
          c.in_ok-append_title.ensures
          (two c.append_title.new.out.items c.append_counts.new.out.items end (counts_part rows) (todo_text ++ after_todo)
          c.in_ok-append_counts.ensures
          (two c.append_counts.new.out.items c.append_todo.new.out.items end todo_text after_todo
          (c.in_ok-append_todo.ensures ∙ ap (λ (t : List ℕ). c.append_counts.new.out.items ++ t) todo)
          (two c.append_todo.new.out.items c.append_files.new.out.items end (files_part value.files) after_files
          c.in_ok-append_files.ensures
          (two c.append_files.new.out.items c.append_told.new.out.items end (told_part partners) after_told c.in_ok-append_told.ensures
          (two c.append_told.new.out.items c.append_partners.new.out.items end (partners_part rows partners) sets
          c.in_ok-append_partners.ensures
          (two c.append_partners.new.out.items c.append_sets.new.out.items end (sets_part rows) last c.in_ok-append_sets.ensures
          (two c.append_sets.new.out.items c.append_record.new.out.items end (record_part value.shown) foot c.in_ok-append_record.ensures
          c.in_ok-append_fixed-2.ensures)))))))),
      record { causes = causes; causes_are = c.in_ok-causes.ensures; text_is = refl },
    )

pub returns-clause-todo : goal.returns-clause-todo
returns-clause-todo c =
    let value = value_of c.args.night.now in
    let causes = c.in_ok-causes.causes.items in
    let inside = is_all_inside value.total in
    let lines : List (List ℕ) = lines_of value.files in
    let inner : List (List ℕ) = value.inner in
    let calm : Bool = is_calm inside lines inner in
    let calm_is =
    c.is_calm-calm.ensures ∙ ap₂ (λ (i : Bool) (l : List (List ℕ)). is_calm i l inner) c.is_all_inside-inside.ensures
    (ap read c.as_slice-4.ensures.value ∙ c.in_ok-lines.ensures) in
    c.has_todo.ensures
    ∙ ap₂ (λ (i : Bool) (l : List Name). not i || is_filled l) calm_is c.as_slice-5.ensures.value
    ∙ ap (λ (b : Bool). not calm || b)
    (sym (texts_filled causes)
    ∙ same_filled (texts_of causes) (filter_map cause_of value.rows) c.in_ok-causes.ensures.same
    ∙ filled cause_of value.rows)
