use Rattle.std.proofs.Common.{◌++◌}
use Rattle.std.specs.Prelude.{codes}
use Rattle.std.proofs.lemmas.Result.{on_ok_weaker}
use Rattle.guide_page.proofs.Growing.{two}
use Rattle.guide_page.specs.Elements.{range_cell}
use Rattle.guide_page.specs.Nodes.{use_cell}
use Rattle.guide_page.specs.Tags.{row_end, row_head}
use Rattle.guide_page.proofs.nodes.append_loop_row.Goals as goal

pub returns : goal.returns
returns c =
    on_ok_weaker c.append_row_end.result (λ adds. two c.args.out.now.items c.append_row_head.new.out.items c.append_row_end.new.out.items
    (row_head c.args.path.now) ((codes "<td>loop</td>") ++ ((use_cell c.args.head.now.min c.args.head.now.max) ++ ((range_cell
    c.args.head.now.min c.args.head.now.max) ++ row_end)))
    c.in_ok-append_row_head.ensures (two c.append_row_head.new.out.items c.append_fixed.new.out.items c.append_row_end.new.out.items
    (codes "<td>loop</td>") ((use_cell c.args.head.now.min c.args.head.now.max) ++ ((range_cell c.args.head.now.min c.args.head.now.max)
    ++ row_end))
    c.in_ok-append_fixed.ensures (two c.append_fixed.new.out.items c.append_use_cell.new.out.items c.append_row_end.new.out.items
    (use_cell c.args.head.now.min c.args.head.now.max) ((range_cell c.args.head.now.min c.args.head.now.max) ++ row_end)
    c.in_ok-append_use_cell.ensures (two c.append_use_cell.new.out.items c.append_range_cell.new.out.items c.append_row_end.new.out.items
    (range_cell c.args.head.now.min c.args.head.now.max) row_end
    c.in_ok-append_range_cell.ensures adds))))
    c.append_row_end.ensures
