use Rattle.std.proofs.Common.{◌≡◌, None, option_map, sym, ap, ◌∙◌, rules}
use Rattle.x12_segs.specs.Words.{elements_of}
use Rattle.loop_match.specs.Steps.{place_view, turned}
use Rattle.loop_match.proofs.ForAbove.{next_outside, next_inside, next_here}
use Rattle.guide_fast.proofs.next.+turn_among.Goals as goal

pub returns-in_err-node-clause-turn : goal.returns-in_err-node-clause-turn
returns-in_err-node-clause-turn t c =
    let none : c.from_residual-in_err-node.result ≡ None = search rules in
    ap (option_map (turned (place_view c.args.place.now))) none
    ∙ next_outside (elements_of c.args.seg.now) c.args.in_loop c.args.here.now c.args.place.now c.in_ok-step.step.now
    c.in_ok-step.rest.now c.in_ok-step.ensures.cases.0 c.in_err-node.ensures.outside

pub returns-in-None-clause-turn : goal.returns-in-None-clause-turn
returns-in-None-clause-turn t c =
    let s = elements_of c.args.seg.now in
    next_here s c.args.in_loop c.args.here.now c.args.place.now c.in_ok-step.step.now c.in_ok-step.rest.now c.in_ok-node.node.now
    c.turn_here.result c.in_ok-step.ensures.cases.0 c.in_ok-node.ensures.inside c.in_ok-node.ensures.node
    (sym (c.in-None.ensures.fit s (place_view c.in_ok-step.rest.now))) c.turn_here.ensures.turn c.turn_here.ensures.depth

pub returns-in-None-turn_among-clause-turn : goal.returns-in-None-turn_among-clause-turn
returns-in-None-turn_among-clause-turn t c =
    let s = elements_of c.args.seg.now in
    let here = c.turn_here-in-None-turn_among in
    next_here s c.args.in_loop c.args.here.now c.args.place.now c.in_ok-step.step.now c.in_ok-step.rest.now c.in_ok-node.node.now
    here.result c.in_ok-step.ensures.cases.0 c.in_ok-node.ensures.inside c.in_ok-node.ensures.node
    (c.in-None-turn_among.ensures.turn ∙ sym (c.in-Some.ensures.fit s (place_view c.in_ok-step.rest.now))) here.ensures.turn
    here.ensures.depth

pub returns-in-Some-turn_among-clause-turn : goal.returns-in-Some-turn_among-clause-turn
returns-in-Some-turn_among-clause-turn t c =
    let s = elements_of c.args.seg.now in
    next_inside s c.args.in_loop c.args.here.now c.args.place.now c.in_ok-step.step.now c.in_ok-step.rest.now c.in_ok-node.node.now
    c.in-Some-turn_among.turn c.in_ok-step.ensures.cases.0 c.in_ok-node.ensures.inside c.in_ok-node.ensures.node
    (c.in-Some-turn_among.ensures.turn ∙ sym (c.in-Some.ensures.fit s (place_view c.in_ok-step.rest.now)))
