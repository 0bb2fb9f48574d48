use Rattle.std.proofs.Common.{ℕ, List, ◌++◌, ap, ◌∙◌, append_assoc}
use Rattle.std.proofs.lemmas.Result.{on_ok_weaker}
use Rattle.partner_setup.specs.Setup.{SetupValue}
use Rattle.csv_fields.specs.Csv.{cells_text, fields_text}
use Rattle.track_table.specs.Cells.{group_cells, interchange_cells}
use Rattle.track_table.specs.Rows.{TrackedBy}
use Rattle.track_table.proofs.Walks.{head_made}
use Rattle.track_table.proofs.rows.append_head.Goals as goal

pub returns : goal.returns
returns c =
    let n : ℕ = c.args.n in
    let x = c.args.judged.now in
    let old = c.args.out.now.items in
    let inside = c.by.inside.setup.now in
    let codes = c.args.notes.now.codes in
    on_ok_weaker c.append_group.result
    (λ text. text
    ∙ ap (λ ks. c.append_interchange.new.out.items ++ fields_text (group_cells c.args.group.now c.args.verdict ks)) c.as_slice.ensures
    ∙ ap (λ (t : List ℕ). t ++ fields_text (group_cells c.args.group.now c.args.verdict codes)) c.in_ok-append_interchange.ensures
    ∙ append_assoc old (cells_text (interchange_cells inside n x)) (fields_text (group_cells c.args.group.now c.args.verdict codes))
    ∙ ap (λ (t : List ℕ). old ++ t) (head_made inside n x (group_cells c.args.group.now c.args.verdict codes))
    ∙ ap (λ (s : SetupValue). old ++ cells_text (interchange_cells s n x ++ group_cells c.args.group.now c.args.verdict codes))
    (ap (λ (b : TrackedBy). b.setup) c.by.view_is))
    c.append_group.ensures
