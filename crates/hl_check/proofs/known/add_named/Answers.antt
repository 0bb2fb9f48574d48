use Rattle.std.proofs.Common.{sym, ◌∙◌}
use Rattle.hl_check.proofs.Knowing.{named_more}
use Rattle.hl_check.proofs.known.add_named.Goals as goal

pub returns-in_ok-insert : goal.returns-in_ok-insert
returns-in_ok-insert c hls h p knows =
    named_more c.args.named.now c.insert.new.self c.args.delims c.args.parent hls h p (sym c.is_filled.ensures ∙ c.if-is_filled.true)
    c.in_ok-insert.ensures.updates.0 knows
