use Rattle.std.proofs.Common.{◌≡◌, arith, true}
use Rattle.guide_tree.specs.Words.{view}
use Rattle.loop_match.specs.Steps.{place_view}
use Rattle.guide_fast.proofs.Stepping.{step_outside, step_back, step_later, step_again, step_inside, no_step_inside, step_in_loop}
use Rattle.guide_fast.proofs.silent.+is_stepped_silent.Goals as goal

pub returns-in_default-node_at : goal.returns-in_default-node_at
returns-in_default-node_at t c at outer =
    step_outside at outer c.args.here.now c.args.last.now c.args.next.now c.in-Some.from.now c.in-Some.rest.now
    c.in-Some-split_first.to.now c.in-Some-split_first.next_rest.now c.in-Some.ensures.cases.0 c.in-Some-split_first.ensures.cases.0
    c.in_default-node_at.ensures.outside

pub returns-then-to-from : goal.returns-then-to-from
returns-then-to-from t c at outer =
    step_back at outer c.args.here.now c.args.last.now c.args.next.now c.in-Some.from.now c.in-Some.rest.now
    c.in-Some-split_first.to.now c.in-Some-split_first.next_rest.now c.in-Some.ensures.cases.0 c.in-Some-split_first.ensures.cases.0
    c.if-to-from.true

pub returns-then-from-to : goal.returns-then-from-to
returns-then-from-to t c at outer =
    step_later at outer c.args.here.now c.args.last.now c.args.next.now c.in-Some.from.now c.in-Some.rest.now
    c.in-Some-split_first.to.now c.in-Some-split_first.next_rest.now c.in-Some-node_at.node.now c.is_later_silent.result
    c.in-Some.ensures.cases.0 c.in-Some-split_first.ensures.cases.0 c.in-Some-node_at.ensures.inside c.in-Some-node_at.ensures.node
    c.if-from-to.true (c.is_later_silent.ensures at outer)

pub returns-then-to-from-2 : goal.returns-then-to-from-2
returns-then-to-from-2 t c at outer =
    let a = c.if-to-from.false in
    let b = c.if-from-to.false in
    let same : c.in-Some-split_first.to.now.child ≡ c.in-Some.from.now.child = omega (arith, a, b) in
    step_again at outer c.args.here.now c.args.last.now c.args.next.now c.in-Some.from.now c.in-Some.rest.now
    c.in-Some-split_first.to.now c.in-Some-split_first.next_rest.now c.in-Some-node_at.node.now c.is_again_silent.result
    c.in-Some.ensures.cases.0 c.in-Some-split_first.ensures.cases.0 c.in-Some-node_at.ensures.inside c.in-Some-node_at.ensures.node
    same c.if-to-from-2.true (c.is_again_silent.ensures at outer)

pub returns-in-None : goal.returns-in-None
returns-in-None t c at outer =
    let a = c.if-to-from.false in
    let b = c.if-from-to.false in
    let same : c.in-Some-split_first.to.now.child ≡ c.in-Some.from.now.child = omega (arith, a, b) in
    let node = c.in-Some-node_at.node.now in
    step_inside at outer c.args.here.now c.args.last.now c.args.next.now c.in-Some.from.now c.in-Some.rest.now
    c.in-Some-split_first.to.now c.in-Some-split_first.next_rest.now node true c.in-Some.ensures.cases.0
    c.in-Some-split_first.ensures.cases.0 c.in-Some-node_at.ensures.inside c.in-Some-node_at.ensures.node same c.if-to-from-2.false
    (no_step_inside at (view node) (place_view c.in-Some.rest.now) (place_view c.in-Some-split_first.next_rest.now)
    c.in-None.ensures.shape)

pub returns-in-Some-table_of : goal.returns-in-Some-table_of
returns-in-Some-table_of t c at outer =
    let a = c.if-to-from.false in
    let b = c.if-from-to.false in
    let same : c.in-Some-split_first.to.now.child ≡ c.in-Some.from.now.child = omega (arith, a, b) in
    let node = c.in-Some-node_at.node.now in
    let r = c.is_stepped_silent.result in
    step_inside at outer c.args.here.now c.args.last.now c.args.next.now c.in-Some.from.now c.in-Some.rest.now
    c.in-Some-split_first.to.now c.in-Some-split_first.next_rest.now node r c.in-Some.ensures.cases.0
    c.in-Some-split_first.ensures.cases.0 c.in-Some-node_at.ensures.inside c.in-Some-node_at.ensures.node same c.if-to-from-2.false
    (step_in_loop at (view node) c.in-Some-table_of.inner.now c.in-Some.rest.now c.in-Some-split_first.next_rest.now r
    c.in-Some-table_of.ensures.shape (c.is_stepped_silent.ensures at))
