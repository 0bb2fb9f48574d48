use Rattle.std.proofs.Common.{◌++◌, []}
use Rattle.std.specs.Prelude.{codes, decimal}
use Rattle.std.specs.List.{flat_map}
use Rattle.std.proofs.lemmas.Result.{on_ok_weaker}
use Rattle.guide_page.proofs.Growing.{two}
use Rattle.guide_page.specs.Named.{reference_cell}
use Rattle.guide_page.specs.Tags.{row_head}
use Rattle.guide_page.specs.Elements.{number_cell, use_cell}
use Rattle.guide_page.proofs.elements.append_composite_row.Goals as goal

pub returns : goal.returns
returns c =
    on_ok_weaker c.append_fixed-2.result (λ adds. (two c.args.out.now.items c.append_row_head.new.out.items
    c.append_fixed-2.new.out.items (row_head c.args.name.now) ((reference_cell c.args.names.now c.args.row.now.reference) ++ ((use_cell
    c.args.row.now.requirement) ++ ((codes "<td>composite</td><td></td>") ++ ((number_cell c.args.row.now.repeat) ++ (codes
    "<td></td></tr>\n")))))
    c.in_ok-append_row_head.ensures (two c.append_row_head.new.out.items c.append_composite_reference.new.out.items
    c.append_fixed-2.new.out.items (reference_cell c.args.names.now c.args.row.now.reference) ((use_cell c.args.row.now.requirement) ++
    ((codes "<td>composite</td><td></td>") ++ ((number_cell c.args.row.now.repeat) ++ (codes "<td></td></tr>\n"))))
    c.in_ok-append_composite_reference.ensures (two c.append_composite_reference.new.out.items c.append_use_cell.new.out.items
    c.append_fixed-2.new.out.items (use_cell c.args.row.now.requirement) ((codes "<td>composite</td><td></td>") ++ ((number_cell
    c.args.row.now.repeat) ++ (codes "<td></td></tr>\n")))
    c.in_ok-append_use_cell.ensures (two c.append_use_cell.new.out.items c.append_fixed.new.out.items c.append_fixed-2.new.out.items
    (codes "<td>composite</td><td></td>") ((number_cell c.args.row.now.repeat) ++ (codes "<td></td></tr>\n"))
    c.in_ok-append_fixed.ensures (two c.append_fixed.new.out.items c.append_number_cell.new.out.items c.append_fixed-2.new.out.items
    (number_cell c.args.row.now.repeat) (codes "<td></td></tr>\n")
    c.in_ok-append_number_cell.ensures adds))))))
    c.append_fixed-2.ensures
