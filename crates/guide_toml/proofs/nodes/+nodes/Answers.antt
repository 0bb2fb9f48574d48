use Rattle.std.proofs.Common.{◌+◌, ℕ, List, drop, map, sym, ap, ◌∙◌, arith}
use Rattle.toml.specs.Data.{depth}
use Rattle.toml.specs.View.{table_view, view, items_view}
use Rattle.guide_tree.specs.Words.{view as tree_view, nodes_view, node_count, count_in}
use Rattle.guide_tree.specs.declared.node.Node.{Node}
use Rattle.guide_toml.specs.Guides.{node_by_table, nodes_in}
use Rattle.guide_toml.specs.Refused.{number_after}
use Rattle.guide_toml.proofs.Forests.{behind_more, count_push, item_depth, none_read, read_all, read_step, that_table, with_front}
use Rattle.guide_toml.proofs.nodes.+nodes.Goals as goal

pub nodes_of-node_of-requires : goal.nodes_of-node_of-requires
nodes_of-node_of-requires t c =
    let v = c.value-item.result in
    let inside = item_depth c.args.values.now c.loop-value.value-index v (omega arith) in
    let here = ap (λ x. depth (view x)) c.value-item.is in
    let members = ap depth (that_table (view v) (table_view c.in-Some.table.now) c.in-Some.ensures) in
    (omega arith, tt)

pub nodes_of-loop-value-init : goal.nodes_of-loop-value-init
nodes_of-loop-value-init t c =
    let all = nodes_in c.args.next.now (items_view c.args.values.now) in
    let none = ap (λ (ns : List Node). node_count (nodes_view ns)) c.new-nodes.ensures.items in
    record {
      read = ap (λ (ns : List Node). with_front (map tree_view ns) all) c.new-nodes.ensures.items ∙ none_read all;
      next = omega (arith, none);
    }

pub nodes_of-loop-value-preserved : goal.nodes_of-loop-value-preserved
nodes_of-loop-value-preserved t c =
    let v = c.value-item.result in
    let vs = c.args.values.now in
    let i : ℕ = c.loop-value.value-index in
    let old = c.loop-value.nodes.items in
    let new = c.push_node.new.nodes.items in
    let first : ℕ = c.loop-value.next in
    let start : ℕ = c.args.next.now in
    let size : ℕ = count_in (tree_view c.in-Ok.node) in
    let read : ℕ = node_count (nodes_view old) in
    let counted = ap (λ (ns : List Node). node_count (nodes_view ns)) c.in_ok-push_node-in-Ok.ensures.ok
    ∙ count_push old c.in-Ok.node in
    record {
      read =
          ap (λ (n : ℕ). with_front (map tree_view new) (nodes_in n (items_view (drop (i + 1) vs)))) c.in-Ok.ensures.next
          ∙ read_step old vs i first v c.in-Ok.node new _ (omega arith) c.value-item.is
          (ap (node_by_table first) (that_table (view v) (table_view c.in-Some.table.now) c.in-Some.ensures) ∙ c.in-Ok.ensures.read)
          c.in_ok-push_node-in-Ok.ensures.ok c.loop-value.invariant.read;
      next =
          c.in-Ok.ensures.next
          ∙ ap (λ (n : ℕ). number_after n size) c.loop-value.invariant.next
          ∙ behind_more start read size
          ∙ ap (number_after start) (sym counted);
    }

pub nodes_of-returns-clause-read : goal.nodes_of-returns-clause-read
nodes_of-returns-clause-read t c =
    let done = c.loop-value-test.false in
    read_all c.loop-value.nodes.items c.args.values.now c.loop-value.value-index c.loop-value.next _ (omega (arith, done))
    c.loop-value.invariant.read
