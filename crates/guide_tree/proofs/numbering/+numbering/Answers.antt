use Rattle.std.proofs.Common.{◌<◌, ◌≡◌, length, get_or, rules}
use Rattle.guide_tree.proofs.NumberStep.{count_step, number_step, unvisited_step, number_end}
use Rattle.guide_tree.proofs.numbering.+numbering.Goals as goal

pub number_nodes-loop-i-preserved : goal.number_nodes-loop-i-preserved
number_nodes-loop-i-preserved t c =
    let nodes = c.loop-i.nodes.items in
    let in_range : c.loop-i.i < length nodes = search rules in
    let old : c.index_mut.result.now ≡ get_or nodes c.loop-i.i c.index_mut.result.now = c.index_mut.ensures.value in
    record {
      unvisited =
          unvisited_step nodes c.args.nodes.now.items c.loop-i.i c.number_node-next.new.node
          c.loop-i.invariant.unvisited;
      next =
          count_step nodes c.loop-i.i c.loop-i.next c.number_node-next.result _ c.index_mut.result.now
          c.number_node-next.new.node in_range old c.number_node-next.ensures.next c.loop-i.invariant.next;
      numbered =
          number_step nodes c.loop-i.i c.loop-i.next c.number_node-next.result _ c.index_mut.result.now
          c.number_node-next.new.node in_range old c.number_node-next.ensures.next
          c.number_node-next.ensures.numbered c.loop-i.invariant.numbered;
    }

pub number_nodes-returns-clause-numbered : goal.number_nodes-returns-clause-numbered
number_nodes-returns-clause-numbered t c =
    let at_end : c.loop-i.i ≡ length c.loop-i.nodes.items = search rules in
    number_end c.loop-i.nodes.items c.loop-i.i c.loop-i.next _ at_end c.loop-i.invariant.numbered
