use Rattle.std.proofs.Common.{sym, ◌∙◌}
use Rattle.guide_tree.specs.Words.{nodes_view}
use Rattle.guide_fast.proofs.StationTurns.{adds_first, adds_next, empty_is, some_is}
use Rattle.guide_fast.proofs.station.add_behind.Goals as goal

pub returns-in_ok-add_starts : goal.returns-in_ok-add_starts
returns-in_ok-add_starts c =
    adds_first c.args.path.now c.args.nodes.now c.args.turns.now.items c.add_starts.new.turns.items
    (empty_is c.args.path.now (sym c.is_empty.ensures ∙ c.if-is_empty.true)) c.in_ok-add_starts.ensures.turns

pub returns-in_ok-add_among : goal.returns-in_ok-add_among
returns-in_ok-add_among c =
    adds_next c.args.path.now (nodes_view c.args.nodes.now) c.args.turns.now.items c.add_among.new.turns.items
    (some_is c.args.path.now (sym c.is_empty.ensures ∙ c.if-is_empty.false)) c.in_ok-add_among.ensures.turns
