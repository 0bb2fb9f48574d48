use Rattle.std.proofs.Common.{◌++◌, []}
use Rattle.std.specs.Prelude.{codes, decimal}
use Rattle.std.specs.List.{flat_map}
use Rattle.std.proofs.lemmas.Result.{on_ok_weaker}
use Rattle.guide_page.proofs.Growing.{two}
use Rattle.guide_page.specs.Nodes.{all_order_rows, order_head}
use Rattle.guide_page.specs.Tags.{table_end}
use Rattle.guide_tree.specs.Words.{nodes_view}
use Rattle.guide_page.proofs.nodes.append_order.Goals as goal

pub returns : goal.returns
returns c =
    on_ok_weaker c.append_table_end.result (λ adds. (two c.args.out.now.items c.append_order_head.new.out.items
    c.append_table_end.new.out.items (order_head) ((all_order_rows c.args.names.now [] (nodes_view c.args.nodes.now)) ++ (table_end))
    c.in_ok-append_order_head.ensures (two c.append_order_head.new.out.items c.append_nodes.new.out.items
    c.append_table_end.new.out.items (all_order_rows c.args.names.now [] (nodes_view c.args.nodes.now)) (table_end)
    c.in_ok-append_nodes.ensures adds)))
    c.append_table_end.ensures
