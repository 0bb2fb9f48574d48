use Rattle.std.proofs.Common.{◌++◌, []}
use Rattle.std.specs.Prelude.{codes, decimal}
use Rattle.std.specs.List.{flat_map}
use Rattle.std.proofs.lemmas.Result.{on_ok_weaker}
use Rattle.guide_page.proofs.Growing.{two}
use Rattle.guide_page.specs.Elements.{element_rows}
use Rattle.guide_page.specs.Nodes.{element_head}
use Rattle.guide_page.specs.Tags.{table_end}
use Rattle.guide_page.proofs.sections.append_element_table.Goals as goal

pub returns : goal.returns
returns c =
    on_ok_weaker c.append_table_end.result (λ adds. (two c.args.out.now.items c.append_element_head.new.out.items
    c.append_table_end.new.out.items (element_head) ((element_rows c.args.names.now c.args.id.now 1 c.args.elements.now) ++ (table_end))
    c.in_ok-append_element_head.ensures (two c.append_element_head.new.out.items c.append_elements.new.out.items
    c.append_table_end.new.out.items (element_rows c.args.names.now c.args.id.now 1 c.args.elements.now) (table_end)
    c.in_ok-append_elements.ensures adds)))
    c.append_table_end.ensures
