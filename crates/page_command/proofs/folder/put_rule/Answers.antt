use Rattle.std.proofs.Common.{◌∙◌, ◌++◌, ◌+◌, ℕ, List, [], ◌∷◌, ap₂, arith, subst}
use Rattle.std.proofs.lemmas.Result.{on_ok_weaker}
use Rattle.csv_fields.specs.Csv.{field_text, fields_text}
use Rattle.guide_tree.specs.Words.{guide_of}
use Rattle.system_io.specs.Outbox.{AddsFiles, File}
use Rattle.page_command.proofs.Putting.{file_made, no_rule, one_rule}
use Rattle.page_command.proofs.folder.put_rule.Goals as goal

pub returns-in-None-clause-samples : goal.returns-in-None-clause-samples
returns-in-None-clause-samples g c =
    no_rule (guide_of c.args.rules.now.guide) c.args.rules.now.rules c.args.number (c.args.number + 1)
    (g.B.Outbox.contents c.args.folder.now) c.args.list.now.items (omega arith)

pub returns-in_ok-append_row-in-Some-clause-samples : goal.returns-in_ok-append_row-in-Some-clause-samples
returns-in_ok-append_row-in-Some-clause-samples g c =
    let was = g.B.Outbox.contents c.args.folder.now in
    let is = g.B.Outbox.contents c.put.new.folder in
    let list : List ℕ = c.args.list.now.items in
    on_ok_weaker c.put.result (λ file. one_rule (guide_of c.args.rules.now.guide) c.args.rules.now.rules c.args.number
    c.in-Some.broken.text c.in-Some.broken.lines was is list c.append_row.new.out.items (rw c.in-Some.is at c.in_ok-broken.ensures)
    (subst (λ (f : File). AddsFiles was is (f ∷ []))
    (ap₂ file_made (c.as_slice-in-Some-2.ensures.value ∙ c.in_ok-name-in-Some.ensures) c.as_slice-in-Some-3.ensures) file)
    (c.in_ok-append_row-in-Some.ensures
    ∙ ap₂ (λ (n l : List ℕ). list ++ (field_text n ++ (fields_text (l ∷ []) ++ 13 ∷ 10 ∷ [])))
    (c.as_slice.ensures.value ∙ c.in_ok-name-in-Some.ensures) c.as_slice-in-Some.ensures))
    c.put.ensures.file
