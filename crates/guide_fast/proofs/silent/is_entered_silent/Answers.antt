use Rattle.std.proofs.Common.{◌≤◌, List, length, get_or, ap, ◌∙◌, rules}
use Rattle.guide_tree.specs.declared.node.Node.{Node}
use Rattle.guide_fast.proofs.Silencing.{entered_outside, entered_inside}
use Rattle.guide_fast.proofs.silent.is_entered_silent.Goals as goal

pub returns-then-to-nodes : goal.returns-then-to-nodes
returns-then-to-nodes c at outer =
    let l : length c.args.here.now ≤ c.args.to.child = search rules in
    entered_outside at outer c.args.here.now c.args.from c.args.to.child c.args.to.use_no c.is_unused_silent.result c.requires.bound l
    (c.is_unused_silent.ensures at outer)

pub returns : goal.returns
returns c at outer =
    let n = c.index-nodes-to.result in
    let k = c.args.to.child in
    c.both.ensures
    ∙ entered_inside at outer c.args.here.now c.args.from k c.args.to.use_no c.needed_between-none.result n c.is_allowed.result
    c.requires.order (search rules) (c.index-nodes-to.is ∙ ap (λ (l : List Node). get_or l k n) c.nodes-nodes.ensures)
    (c.needed_between-none.ensures at outer) (c.is_allowed.ensures at outer)
