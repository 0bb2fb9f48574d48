use Rattle.std.proofs.Common.{length, sym, ◌∙◌, eqb-true}
use Rattle.std.proofs.lemmas.Result.{on_ok_weaker}
use Rattle.mailbox.proofs.ForAbove.{some_left}
use Rattle.track_table.specs.Cells.{plain_end}
use Rattle.track_table.proofs.Targets.{other_rows, routed_rows, unrouted_rows}
use Rattle.track_table.proofs.rows.append_ends.Goals as goal

pub returns-then-not-is_deliverable-clause-rows : goal.returns-then-not-is_deliverable-clause-rows
returns-then-not-is_deliverable-clause-rows c =
    on_ok_weaker c.append_other.result
    (λ text. other_rows c.args.by.now c.args.line.now c.args.placed.now (plain_end c.other_outcome.result.now) _ _ c.args.cursors.now
    (sym c.is_deliverable.ensures ∙ c.if-not-is_deliverable.true) c.other_outcome.ensures text)
    c.append_other.ensures

pub returns-then-is_empty-clause-rows : goal.returns-then-is_empty-clause-rows
returns-then-is_empty-clause-rows c =
    on_ok_weaker c.append_other-then-is_empty.result
    (λ text. unrouted_rows c.args.by.now c.args.line.now c.args.placed.now c.args.route.now _ _ c.args.cursors.now
    (sym c.is_deliverable.ensures ∙ c.if-not-is_deliverable.false) c.requires.route
    (eqb-true (length c.args.route.now) 0 (sym c.is_empty.ensures ∙ c.if-is_empty.true)) text)
    c.append_other-then-is_empty.ensures

pub returns-clause-rows : goal.returns-clause-rows
returns-clause-rows c =
    on_ok_weaker c.append_targets.result
    (λ rows. routed_rows c.args.by.now c.args.line.now c.args.placed.now c.args.route.now _ _ c.args.cursors.now _
    (sym c.is_deliverable.ensures ∙ c.if-not-is_deliverable.false) c.requires.route
    (some_left (length c.args.route.now) (sym c.if-is_empty.false ∙ c.is_empty.ensures)) rows)
    c.append_targets.ensures.rows
