use Rattle.guide_fast.proofs.KnownStarts.{starts_init, starts_more, starts_end, starts_left}
use Rattle.guide_fast.proofs.known.add_starts.Goals as goal

pub loop-k-init : goal.loop-k-init
loop-k-init c = starts_init c.args.depth c.args.from c.args.silent c.args.nodes.now c.args.turns.now.items

pub loop-k-preserved : goal.loop-k-preserved
loop-k-preserved c =
    starts_more c.args.depth c.args.from c.loop-k.k c.args.silent c.loop-k.silent c.is_passed-silent.result c.args.nodes.now
    c.index-nodes-k.result c.args.turns.now.items c.loop-k.turns.items c.add_turn.new.turns.items c.loop-k.auto.k c.loop-k-test.true
    c.index-nodes-k.is c.loop-k.invariant c.in_ok-add_turn.ensures c.is_passed-silent.ensures

pub returns-clause-turns : goal.returns-clause-turns
returns-clause-turns c =
    starts_end c.args.depth c.args.from c.loop-k.k c.args.silent c.loop-k.silent c.args.nodes.now c.args.turns.now.items
    c.loop-k.turns.items c.loop-k-test.false c.loop-k.invariant

pub returns-clause-silent : goal.returns-clause-silent
returns-clause-silent c =
    starts_left c.args.depth c.args.from c.loop-k.k c.args.silent c.loop-k.silent c.args.nodes.now c.args.turns.now.items
    c.loop-k.turns.items c.loop-k-test.false c.loop-k.invariant
