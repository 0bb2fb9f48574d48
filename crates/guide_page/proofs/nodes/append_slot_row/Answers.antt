use Rattle.std.proofs.Common.{◌++◌, []}
use Rattle.std.specs.Prelude.{codes, decimal}
use Rattle.std.specs.List.{flat_map}
use Rattle.std.proofs.lemmas.Result.{on_ok_weaker}
use Rattle.guide_page.proofs.Growing.{two}
use Rattle.guide_page.specs.Nodes.{link_part, use_cell}
use Rattle.guide_page.specs.Elements.{range_cell}
use Rattle.guide_page.specs.Tags.{row_end}
use Rattle.guide_page.proofs.nodes.append_slot_row.Goals as goal

pub returns : goal.returns
returns c =
    on_ok_weaker c.append_row_end.result (λ adds. (two c.args.out.now.items c.append_link.new.out.items c.append_row_end.new.out.items
    (link_part c.args.names.now c.args.path.now c.args.slot.now) ((codes "<td>segment</td>") ++ ((use_cell c.args.slot.now.min
    c.args.slot.now.max) ++ ((range_cell c.args.slot.now.min c.args.slot.now.max) ++ (row_end))))
    c.in_ok-append_link.ensures (two c.append_link.new.out.items c.append_fixed.new.out.items c.append_row_end.new.out.items (codes
    "<td>segment</td>") ((use_cell c.args.slot.now.min c.args.slot.now.max) ++ ((range_cell c.args.slot.now.min c.args.slot.now.max) ++
    (row_end)))
    c.in_ok-append_fixed.ensures (two c.append_fixed.new.out.items c.append_use_cell.new.out.items c.append_row_end.new.out.items
    (use_cell c.args.slot.now.min c.args.slot.now.max) ((range_cell c.args.slot.now.min c.args.slot.now.max) ++ (row_end))
    c.in_ok-append_use_cell.ensures (two c.append_use_cell.new.out.items c.append_range_cell.new.out.items c.append_row_end.new.out.items
    (range_cell c.args.slot.now.min c.args.slot.now.max) (row_end)
    c.in_ok-append_range_cell.ensures adds)))))
    c.append_row_end.ensures
