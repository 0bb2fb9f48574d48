use Rattle.std.proofs.Common.{◌≡◌, ℕ, List, [], ◌∷◌, ◌++◌, Bool, true, false, cond, refl, sym, ap, ◌∙◌, append-nil}
use Rattle.std.proofs.lemmas.Result.{on_ok_weaker}
use Rattle.answered_sets.specs.Judged.{is_refused}
use Rattle.csv_fields.specs.Csv.{record_text, table_text}
use Rattle.track_table.specs.Rows.{groups_rows, refused_row}
use Rattle.track_table.proofs.Targets.{behind_refused}
use Rattle.track_table.proofs.Walks.{rows_as}
use Rattle.track_table.proofs.rows.append_rows.Goals as goal

pub returns-then-is_refused-clause-rows : goal.returns-then-is_refused-clause-rows
returns-then-is_refused-clause-rows c =
    let by = c.args.by.now in
    let x = c.args.judged.now in
    let is : is_refused x ≡ true = sym c.is_refused.ensures ∙ c.if-is_refused.true in
    on_ok_weaker c.append_refused.result
    (λ text before behind. (
      text ∙ ap (λ (t : List ℕ). c.args.out.now.items ++ t) (sym (append-nil (record_text (refused_row by c.args.n x)))
          ∙ sym (ap (λ (b : Bool). table_text (cond b (refused_row by c.args.n x ∷ [])
          (groups_rows by c.args.n before x c.args.notes.now.groups 0 x.interchange.content.groups))) is)),
      behind_refused by before x c.args.cursors.now is behind,
    ))
    c.append_refused.ensures

pub returns-clause-rows : goal.returns-clause-rows
returns-clause-rows c =
    let by = c.args.by.now in
    let x = c.args.judged.now in
    let is : is_refused x ≡ false = sym c.is_refused.ensures ∙ c.if-is_refused.false in
    on_ok_weaker c.append_groups.result
    (λ rows. rows_as by _ _ _ _ _ _ _ _
    (λ before. ap (λ ns. table_text (groups_rows by c.args.n before x ns 0 x.interchange.content.groups)) c.as_slice.ensures
    ∙ sym (ap (λ (b : Bool). table_text (cond b (refused_row by c.args.n x ∷ [])
    (groups_rows by c.args.n before x c.args.notes.now.groups 0 x.interchange.content.groups))) is))
    refl rows)
    c.append_groups.ensures.rows
