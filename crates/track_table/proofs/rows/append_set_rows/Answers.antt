use Rattle.std.proofs.Common.{ℕ, List, [], ◌∷◌, subst, ◌∙◌}
use Rattle.std.proofs.lemmas.Result.{on_ok_weaker}
use Rattle.track_table.specs.Walking.{HasRows, ends_text}
use Rattle.track_table.proofs.rows.append_set_rows.Goals as goal

pub returns-clause-rows : goal.returns-clause-rows
returns-clause-rows c =
    let by = c.args.by.now in
    let p = c.args.placed.now in
    on_ok_weaker c.append_ends.result
    (λ rows. subst (λ (l : List ℕ). HasRows by (λ before. ends_text by before l p) (p ∷ []) c.args.out.now.items c.append_ends.new.out.items
    c.args.cursors.now c.append_ends.new.cursors) (c.as_slice.ensures.value ∙ c.in_ok-line.ensures) rows)
    c.append_ends.ensures.rows
