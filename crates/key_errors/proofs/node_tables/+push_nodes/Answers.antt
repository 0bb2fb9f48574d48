use Rattle.std.proofs.Common.{ap, arith}
use Rattle.toml.specs.Data.{depth}
use Rattle.toml.specs.View.{view}
use Rattle.guide_toml.proofs.ForAbove.{item_depth}
use Rattle.key_errors.proofs.node_tables.+push_nodes.Goals as goal

pub push_nodes-push_node-requires : goal.push_nodes-push_node-requires
push_nodes-push_node-requires t c =
    let v = c.value-item.result in
    let inside = item_depth c.args.values.now c.loop-value.value-index v (omega arith) in
    let here = ap (λ x. depth (view x)) c.value-item.is in
    (omega arith, tt)
