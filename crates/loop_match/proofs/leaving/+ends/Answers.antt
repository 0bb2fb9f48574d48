use Rattle.std.proofs.lemmas.Result.{on_ok_weaker}
use Rattle.loop_match.proofs.Finding.{ended_outside, ended_next}
use Rattle.loop_match.proofs.leaving.+ends.Goals as goal

pub ended-returns-then-step-nodes : goal.ended-returns-then-step-nodes
ended-returns-then-step-nodes t c =
    ended_outside c.args.at c.args.outer.now c.args.nodes.now c.args.place.now c.in-Some.step.now c.in-Some.rest.now c.args.found.now
    c.in-Some.ensures.cases.0 c.if-step-nodes.true

pub ended-returns : goal.ended-returns
ended-returns t c =
    on_ok_weaker c.unused.result (ended_next c.args.at c.args.outer.now c.args.nodes.now c.args.place.now c.in-Some.step.now
    c.in-Some.rest.now c.index-nodes-step.result c.args.found.now c.ended_in.new.found c.too_few.new.self c.unused.new.found
    c.in-Some.ensures.cases.0 c.if-step-nodes.false c.index-nodes-step.is c.in_ok-ended_in.ensures c.in_ok-too_few.ensures)
    c.unused.ensures
