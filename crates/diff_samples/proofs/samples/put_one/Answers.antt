use Rattle.std.proofs.Common.{◌∙◌, ◌++◌, List, ℕ, [], ◌∷◌, ap₂, get_or, subst, sym}
use Rattle.std.proofs.lemmas.Option.{slice_get-get_or}
use Rattle.std.proofs.lemmas.Result.{on_ok_weaker}
use Rattle.system_io.specs.Outbox.{AddsFiles, File}
use Rattle.diff_samples.specs.Samples.{row_text}
use Rattle.diff_samples.proofs.Putting.{file_made, shows_it, unshown, wider}
use Rattle.diff_samples.proofs.samples.put_one.Goals as goal

pub returns-then-is_widening-clause-samples : goal.returns-then-is_widening-clause-samples
returns-then-is_widening-clause-samples g c =
    wider c.args.compared.now c.args.number
    (get_or c.args.compared.now.found.now c.args.number c.index-compared-number.result)
    (g.B.Outbox.contents c.args.folder.now) c.args.list.now.items
    (slice_get-get_or c.args.compared.now.found.now c.args.number c.index-compared-number.result c.requires.number)
    (sym c.is_widening.ensures ∙ c.if-is_widening.true)

pub returns-in-None-clause-samples : goal.returns-in-None-clause-samples
returns-in-None-clause-samples g c =
    unshown c.args.compared.now c.args.number
    (get_or c.args.compared.now.found.now c.args.number c.index-compared-number.result)
    (g.B.Outbox.contents c.args.folder.now) c.args.list.now.items
    c.append_row.new.out.items c.as_slice.result.now
    (slice_get-get_or c.args.compared.now.found.now c.args.number c.index-compared-number.result c.requires.number)
    (sym c.is_widening.ensures ∙ c.if-is_widening.false)
    (c.as_slice.ensures.value ∙ c.in_ok-line.ensures) c.in_ok-append_row-in-None.ensures

pub returns-clause-samples : goal.returns-clause-samples
returns-clause-samples g c =
    let was = g.B.Outbox.contents c.args.folder.now in
    let is = g.B.Outbox.contents c.put.new.folder in
    let list : List ℕ = c.args.list.now.items in
    let line : List ℕ = c.as_slice-in-Some.result.now in
    on_ok_weaker c.put.result (λ file. shows_it c.args.compared.now c.args.number
    (get_or c.args.compared.now.found.now c.args.number c.index-compared-number.result) c.in-Some.broken.text
    c.in-Some.broken.lines was is list c.append_row-in-Some.new.out.items line
    (slice_get-get_or c.args.compared.now.found.now c.args.number c.index-compared-number.result c.requires.number)
    (sym c.is_widening.ensures ∙ c.if-is_widening.false)
    (rw c.in-Some.is at c.in_ok-shown.ensures) (c.as_slice-in-Some.ensures.value ∙ c.in_ok-line.ensures)
    (c.in_ok-append_row-in-Some.ensures
    ∙ ap₂ (λ (n l : List ℕ). list ++ row_text line n l) (c.as_slice-in-Some-2.ensures.value ∙ c.in_ok-name-in-Some.ensures)
    c.as_slice-in-Some-3.ensures)
    (subst (λ (f : File). AddsFiles was is (f ∷ []))
    (ap₂ file_made (c.as_slice-in-Some-4.ensures.value ∙ c.in_ok-name-in-Some.ensures) c.as_slice-in-Some-5.ensures) file))
    c.put.ensures.file
