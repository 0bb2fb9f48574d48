use Rattle.std.proofs.Common.{◌≡◌, ℕ, List, ◌++◌, refl, ap, ◌∙◌}
use Rattle.std.proofs.lemmas.Result.{on_ok_weaker}
use Rattle.env_index.specs.Words.{InterchangeEntry, GroupEntry}
use Rattle.hub_kinds.specs.declared.set_codes.GroupVerdict.{GroupVerdict}
use Rattle.answered_sets.specs.Judged.{standing_at}
use Rattle.answered_sets.specs.declared.standing.GroupStanding.{GroupStanding}
use Rattle.csv_fields.specs.Csv.{cells_text}
use Rattle.mailbox.proofs.ForAbove.{same_at}
use Rattle.track_table.specs.Cells.{group_cells, interchange_cells}
use Rattle.track_table.specs.Rows.{sets_at}
use Rattle.track_table.specs.Walking.{sets_text}
use Rattle.track_table.proofs.Walks.{head_text, rows_as, sets_are_rows}
use Rattle.track_table.proofs.rows.append_group_rows.Goals as goal

pub returns-clause-rows : goal.returns-clause-rows
returns-clause-rows c =
    let by = c.args.by.now in
    let x = c.args.judged.now in
    let k : ℕ = c.args.k in
    let notes = c.args.notes.now in
    on_ok_weaker c.append_sets.result
    (λ made g there.
    let same : c.group-group.result ≡ g = same_at _ _ _ _ _
    (ap (λ (i : InterchangeEntry). i.content.groups) c.interchange.ensures.value) c.group-group.ensures there in
    let verdict = c.verdict_at-verdict.ensures
    ∙ ap (λ (ss : List GroupStanding). (standing_at ss k).verdict) c.standings.ensures in
    let head : c.as_slice.result.now ≡ head_text by c.args.n x g (standing_at x.standings k) notes =
    c.as_slice.ensures.value ∙ c.in_ok-head.ensures
    ∙ ap (λ (h : GroupEntry). cells_text (interchange_cells by.setup c.args.n x
    ++ group_cells h c.verdict_at-verdict.result notes.codes)) same
    ∙ ap (λ (v : GroupVerdict). cells_text (interchange_cells by.setup c.args.n x ++ group_cells g v notes.codes)) verdict in
    rows_as by _ _ _ _ _ _ _ _
    (λ before. ap (λ (h : List ℕ). sets_text by h notes before (sets_at x k g)) head
    ∙ sets_are_rows by c.args.n before notes x g (standing_at x.standings k) 0 g.sets)
    refl (made g there))
    c.append_sets.ensures.rows
