use Rattle.std.proofs.Common.{ℕ, List, ◌++◌, ap, ◌∙◌, append_assoc}
use Rattle.std.specs.Prelude.{slice_index_or}
use Rattle.std.proofs.lemmas.Result.{on_ok_weaker}
use Rattle.csv_fields.specs.Csv.{fields_text}
use Rattle.set_documents.specs.Documents.{DocumentValue}
use Rattle.track_table.specs.Cells.{no_set_notes, set_cells}
use Rattle.track_table.specs.Rows.{TrackedBy}
use Rattle.track_table.proofs.rows.append_line.Goals as goal

pub returns : goal.returns
returns c =
    let p = c.args.placed.now in
    let old = c.args.out.now.items in
    let head = c.args.head.now in
    let notes = slice_index_or c.args.notes.now.sets p.index no_set_notes in
    let inside = c.by.inside.documents.now in
    on_ok_weaker c.append_set.result
    (λ text. text
    ∙ ap (λ (t : List ℕ). t ++ fields_text (set_cells inside p notes)) c.in_ok-extend_from_slice.ensures.items
    ∙ append_assoc old head (fields_text (set_cells inside p notes))
    ∙ ap (λ (ds : List DocumentValue). old ++ (head ++ fields_text (set_cells ds p notes)))
    (ap (λ (b : TrackedBy). b.documents) c.by.view_is))
    c.append_set.ensures
