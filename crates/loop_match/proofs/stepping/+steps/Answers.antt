use Rattle.std.proofs.lemmas.Result.{on_ok_weaker}
use Rattle.loop_match.proofs.Finding.{among_outside, among_back, among_inside, among_again, among_later, after}
use Rattle.loop_match.proofs.stepping.+steps.Goals as goal

pub stepped-returns-then-from-nodes : goal.stepped-returns-then-from-nodes
stepped-returns-then-from-nodes t c =
    among_outside c.args.at c.args.outer.now c.args.nodes.now c.args.last.now c.args.next.now c.in-Some.from.now c.in-Some.rest.now
    c.in-Some-split_first.to.now c.in-Some-split_first.next_rest.now c.args.found.now c.in-Some.ensures.cases.0
    c.in-Some-split_first.ensures.cases.0 c.if-from-nodes.true

pub stepped-returns-then-to-from : goal.stepped-returns-then-to-from
stepped-returns-then-to-from t c =
    among_back c.args.at c.args.outer.now c.args.nodes.now c.args.last.now c.args.next.now c.in-Some.from.now c.in-Some.rest.now
    c.in-Some-split_first.to.now c.in-Some-split_first.next_rest.now c.args.found.now c.in-Some.ensures.cases.0
    c.in-Some-split_first.ensures.cases.0 c.if-to-from.true

pub stepped-returns-then-to-from-3 : goal.stepped-returns-then-to-from-3
stepped-returns-then-to-from-3 t c =
    on_ok_weaker c.stepped_in.result (among_inside c.args.at c.args.outer.now c.args.nodes.now c.args.last.now c.args.next.now
    c.in-Some.from.now c.in-Some.rest.now c.in-Some-split_first.to.now c.in-Some-split_first.next_rest.now c.index-nodes-from.result
    c.args.found.now c.stepped_in.new.found c.in-Some.ensures.cases.0 c.in-Some-split_first.ensures.cases.0 c.if-from-nodes.false
    c.index-nodes-from.is c.if-to-from-2.true c.if-to-from-3.true)
    c.stepped_in.ensures

pub stepped-returns-then-to-from-2 : goal.stepped-returns-then-to-from-2
stepped-returns-then-to-from-2 t c =
    on_ok_weaker c.past.result (among_again c.args.at c.args.outer.now c.args.nodes.now c.args.last.now c.args.next.now
    c.in-Some.from.now c.in-Some.rest.now c.in-Some-split_first.to.now c.in-Some-split_first.next_rest.now c.index-nodes-from.result
    c.args.found.now c.ended_in.new.found c.past.new.self c.in-Some.ensures.cases.0 c.in-Some-split_first.ensures.cases.0
    c.if-from-nodes.false c.index-nodes-from.is c.if-to-from-2.true c.if-to-from-3.false c.in_ok-ended_in.ensures)
    c.past.ensures

pub stepped-returns : goal.stepped-returns
stepped-returns t c =
    let later = c.if-to-from-2.false in
    on_ok_weaker c.entered.result (among_later c.args.at c.args.outer.now c.args.nodes.now c.args.last.now c.args.next.now
    c.in-Some.from.now c.in-Some.rest.now c.in-Some-split_first.to.now c.in-Some-split_first.next_rest.now c.index-nodes-from.result
    c.args.found.now c.ended_in-2.new.found c.too_few.new.self c.entered.new.found c.in-Some.ensures.cases.0
    c.in-Some-split_first.ensures.cases.0 c.if-from-nodes.false c.index-nodes-from.is
    (after c.in-Some.from.now.child c.in-Some-split_first.to.now.child c.if-to-from.false later) c.in_ok-ended_in-2.ensures
    c.in_ok-too_few.ensures)
    c.entered.ensures
