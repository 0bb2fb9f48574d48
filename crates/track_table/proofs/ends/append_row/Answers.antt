use Rattle.std.proofs.Common.{ℕ, List, [], ◌∷◌, ◌++◌, ap, ◌∙◌, append_assoc}
use Rattle.std.proofs.lemmas.Result.{on_ok_weaker}
use Rattle.mailbox.specs.Deliveries.{outcome_at}
use Rattle.csv_fields.specs.Csv.{fields_text}
use Rattle.track_table.specs.Rows.{outcome_cells}
use Rattle.track_table.proofs.ends.append_row.Goals as goal

pub returns-clause-row : goal.returns-clause-row
returns-clause-row c =
    on_ok_weaker c.append_end.result
    (λ ended before targets none amid.
    let row = c.in_ok-append_outcome.ensures.row before targets none amid in
    let old = c.args.out.now.items in
    let line = c.args.line.now in
    let setup = c.args.by.now.setup in
    let end = fields_text (outcome_cells c.args.by.now before c.args.placed.now (outcome_at setup c.args.placed.now c.args.to)) in (
      ended ∙ ap (λ (t : List ℕ). t ++ 13 ∷ 10 ∷ []) (row.0 ∙ ap (λ (t : List ℕ). t ++ end) c.in_ok-extend_from_slice.ensures.items)
          ∙ ap (λ (t : List ℕ). t ++ 13 ∷ 10 ∷ []) (append_assoc old line end)
          ∙ append_assoc old (line ++ end) (13 ∷ 10 ∷ []),
      row.1,
    ))
    c.append_end.ensures
