use Rattle.x12_segs.specs.Words.{elements_of}
use Rattle.loop_match.proofs.Indexed.{next_outside, next_inside, next_here}
use Rattle.loop_match.proofs.next.+turns.Goals as goal

pub turn_among-returns-then-step-nodes-clause-turn : goal.turn_among-returns-then-step-nodes-clause-turn
turn_among-returns-then-step-nodes-clause-turn t c =
    next_outside (elements_of c.args.seg.now) c.args.in_loop c.args.nodes.now c.args.place.now c.in_ok-step.step.now
    c.in_ok-step.rest.now c.in_ok-step.ensures.cases.0 c.if-step-nodes.true

pub turn_among-returns-in-Some-clause-turn : goal.turn_among-returns-in-Some-clause-turn
turn_among-returns-in-Some-clause-turn t c =
    next_inside (elements_of c.args.seg.now) c.args.in_loop c.args.nodes.now c.args.place.now c.in_ok-step.step.now
    c.in_ok-step.rest.now c.index-nodes-step.result c.in-Some.turn c.in_ok-step.ensures.cases.0 c.if-step-nodes.false
    c.index-nodes-step.is c.in-Some.ensures.turn

pub turn_among-returns-in-None-clause-turn : goal.turn_among-returns-in-None-clause-turn
turn_among-returns-in-None-clause-turn t c =
    next_here (elements_of c.args.seg.now) c.args.in_loop c.args.nodes.now c.args.place.now c.in_ok-step.step.now
    c.in_ok-step.rest.now c.index-nodes-step.result c.turn_here.result c.in_ok-step.ensures.cases.0 c.if-step-nodes.false
    c.index-nodes-step.is c.in-None.ensures.turn c.turn_here.ensures.turn c.turn_here.ensures.depth
