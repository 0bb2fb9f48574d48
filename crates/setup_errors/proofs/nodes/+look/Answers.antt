use Rattle.std.proofs.Common.{◌≢◌, ◌<◌, ◌∙◌, length, arith}
use Rattle.guide_tree.specs.Words.{view}
use Rattle.setup_errors.specs.Search.{at, behind}
use Rattle.setup_errors.proofs.Looked.{at_loop, past_segment, view_loop, view_segment}
use Rattle.setup_errors.proofs.nodes.+look.Goals as goal
use Rattle.setup_errors.proofs.nodes.+look.Goals.{in-Loop+in-Behind, in_default}

pub returns-in-At : goal.returns-in-At
returns-in-At t c =
    let in_range : c.loop-node.node-index < length c.args.nodes.now = omega arith in
    let away : c.loop-node.left ≢ 0 = omega arith in
    at_loop c.args.nodes.now c.deref.result.now c.loop-node.node-index c.loop-node.left c.node-item.result c.in-Loop.field-0
    (at (view c.in-At.node.now)) in_range c.node-item.is away
    (view_loop _ c.in-Loop.field-0 c.in-Loop.inner c.deref.result.now c.in-Loop.is c.deref.ensures.value)
    c.in-At.ensures ∙ c.loop-node.invariant

pub loop-node-preserved : goal.loop-node-preserved
loop-node-preserved t c =
    let in_range : c.loop-node.node-index < length c.args.nodes.now = omega arith in
    let away : c.loop-node.left ≢ 0 = omega arith in
    elim c.match-node.branch [
      | in-Loop+in-Behind w ↦
          rw (w.left-is)
          (at_loop c.args.nodes.now w.deref.result.now c.loop-node.node-index c.loop-node.left c.node-item.result w.in-Loop.field-0
          (behind w.in-Behind.behind) in_range c.node-item.is away
          (view_loop _ w.in-Loop.field-0 w.in-Loop.inner w.deref.result.now w.in-Loop.is w.deref.ensures.value)
          w.in-Behind.ensures ∙ c.loop-node.invariant)
      | in_default w ↦
          rw (w.left-is)
          (past_segment c.args.nodes.now c.loop-node.node-index c.loop-node.left c.node-item.result w.in_default.field-0 in_range
          c.node-item.is away (view_segment _ w.in_default.field-0 w.in_default.is) ∙ c.loop-node.invariant)
    ]
