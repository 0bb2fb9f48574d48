use Rattle.std.specs.BTreeMap.{get}
use Rattle.hub_kinds.specs.Words.{by_text}
use Rattle.hl_check.proofs.Knowing.{level_more, level_kept, none_known, some_known}
use Rattle.hl_check.proofs.known.add_level.Goals as goal

pub returns-in_ok-insert : goal.returns-in_ok-insert
returns-in_ok-insert c hls h n l knows =
    level_more c.args.levels.now c.insert.new.self c.args.number c.args.level hls h n l
    (none_known c.get.result (get by_text c.args.levels.now c.args.number) c.get.ensures.value c.if-is_none.ensures)
    c.in_ok-insert.ensures.updates.0 knows

pub returns-else-is_none : goal.returns-else-is_none
returns-else-is_none c hls h n l knows =
    level_kept c.args.levels.now c.args.number hls h n
    (some_known c.get.result (get by_text c.args.levels.now c.args.number) c.get.ensures.value c.if-is_none.ensures)
    knows
