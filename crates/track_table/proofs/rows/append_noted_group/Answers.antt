use Rattle.std.proofs.Common.{◌≡◌, refl, ap, ◌∙◌}
use Rattle.std.specs.Prelude.{slice_index_or}
use Rattle.std.proofs.lemmas.Result.{on_ok_weaker}
use Rattle.track_table.specs.declared.notes.GroupNotes.{GroupNotes}
use Rattle.csv_fields.specs.Csv.{table_text}
use Rattle.track_table.specs.Rows.{notes_at, sets_at, sets_rows}
use Rattle.track_table.proofs.Walks.{rows_as}
use Rattle.track_table.proofs.rows.append_noted_group.Goals as goal

pub returns-clause-rows : goal.returns-clause-rows
returns-clause-rows c =
    let by = c.args.by.now in
    let x = c.args.judged.now in
    let k = c.args.k in
    let same : c.noted_at.result.now ≡ notes_at c.args.notes.now k =
    c.noted_at.ensures ∙ ap (λ (m : GroupNotes). slice_index_or c.args.notes.now k m) c.none-none.ensures in
    on_ok_weaker c.append_group_rows.result
    (λ made g there. rows_as by _ _ _ _ _ _ _ _
    (λ before. ap (λ (m : GroupNotes). table_text (sets_rows by c.args.n before m (sets_at x k g))) same)
    refl (made g there))
    c.append_group_rows.ensures.rows
