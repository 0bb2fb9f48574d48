use Rattle.loop_match.specs.Viewed.{placed_view}
use Rattle.std.proofs.Common.{sym, ◌∙◌}
use Rattle.depend_check.proofs.Knowing.{text_more}
use Rattle.depend_check.proofs.texts.add_text.Goals as goal

pub returns-in_ok-insert : goal.returns-in_ok-insert
returns-in_ok-insert c ps knows =
    text_more c.args.texts.now c.insert.new.self c.text_at.result c.args.label.now c.args.at ps (placed_view c.args.placed.now)
    c.text_at.ensures (sym c.is_use.ensures ∙ c.if-is_use.true) c.in_ok-insert.ensures.updates.0 knows
