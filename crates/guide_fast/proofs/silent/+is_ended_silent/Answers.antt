use Rattle.std.proofs.Common.{refl, sym, ◌∙◌, true}
use Rattle.guide_tree.specs.Words.{view}
use Rattle.loop_match.specs.Steps.{place_view}
use Rattle.guide_fast.proofs.Silencing.{ended_outside, ended_here, no_end_inside, end_inside, alone}
use Rattle.guide_fast.proofs.silent.+is_ended_silent.Goals as goal

pub returns-in_default-node_at : goal.returns-in_default-node_at
returns-in_default-node_at t c at outer =
    ended_outside at outer c.args.here.now c.args.place.now c.in-Some.step.now c.in-Some.rest.now c.in-Some.ensures.cases.0
    c.in_default-node_at.ensures.outside

pub returns-in-None : goal.returns-in-None
returns-in-None t c at outer =
    let rest = c.in-Some.rest.now in
    let node = c.in-Some-node_at.node.now in
    let left = c.is_left_silent-left.result in
    sym (alone left true refl)
    ∙ ended_here at outer c.args.here.now c.args.place.now c.in-Some.step.now rest node left true c.in-Some.ensures.cases.0
    c.in-Some-node_at.ensures.inside c.in-Some-node_at.ensures.node (c.is_left_silent-left.ensures at outer)
    (no_end_inside at (view node) (place_view rest) c.in-None.ensures.shape)

pub returns-in-Some-table_of : goal.returns-in-Some-table_of
returns-in-Some-table_of t c at outer =
    let rest = c.in-Some.rest.now in
    let node = c.in-Some-node_at.node.now in
    let inner = c.is_ended_silent.result in
    c.both.ensures
    ∙ ended_here at outer c.args.here.now c.args.place.now c.in-Some.step.now rest node c.is_left_silent-left.result inner
    c.in-Some.ensures.cases.0 c.in-Some-node_at.ensures.inside c.in-Some-node_at.ensures.node (c.is_left_silent-left.ensures at outer)
    (end_inside at (view node) c.in-Some-table_of.inner.now rest inner c.in-Some-table_of.ensures.shape (c.is_ended_silent.ensures at))
