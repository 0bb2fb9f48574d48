use Rattle.std.proofs.Common.{◌++◌, []}
use Rattle.std.specs.Prelude.{codes, decimal}
use Rattle.std.specs.List.{flat_map}
use Rattle.std.proofs.lemmas.Result.{on_ok_weaker}
use Rattle.guide_page.proofs.Growing.{two}
use Rattle.guide_page.specs.Named.{reference_cell}
use Rattle.guide_page.specs.Tags.{row_head}
use Rattle.guide_page.specs.Elements.{number_cell, range_cell, type_cell, use_cell, value_cell}
use Rattle.guide_page.proofs.elements.append_simple_row.Goals as goal

pub returns : goal.returns
returns c =
    on_ok_weaker c.append_row_values.result (λ adds. (two c.args.out.now.items c.append_row_head.new.out.items
    c.append_row_values.new.out.items (row_head c.args.name.now) ((reference_cell c.args.names.now c.args.row.now.reference) ++
    ((use_cell c.args.row.now.requirement) ++ ((type_cell c.args.row.now) ++ ((range_cell c.args.row.now.min c.args.row.now.max) ++
    ((number_cell c.args.times) ++ (value_cell c.args.names.now c.args.row.now.reference c.args.row.now.codes))))))
    c.in_ok-append_row_head.ensures (two c.append_row_head.new.out.items c.append_row_reference.new.out.items
    c.append_row_values.new.out.items (reference_cell c.args.names.now c.args.row.now.reference) ((use_cell c.args.row.now.requirement)
    ++ ((type_cell c.args.row.now) ++ ((range_cell c.args.row.now.min c.args.row.now.max) ++ ((number_cell c.args.times) ++ (value_cell
    c.args.names.now c.args.row.now.reference c.args.row.now.codes)))))
    c.in_ok-append_row_reference.ensures (two c.append_row_reference.new.out.items c.append_use_cell.new.out.items
    c.append_row_values.new.out.items (use_cell c.args.row.now.requirement) ((type_cell c.args.row.now) ++ ((range_cell
    c.args.row.now.min c.args.row.now.max) ++ ((number_cell c.args.times) ++ (value_cell c.args.names.now c.args.row.now.reference
    c.args.row.now.codes))))
    c.in_ok-append_use_cell.ensures (two c.append_use_cell.new.out.items c.append_type_cell.new.out.items
    c.append_row_values.new.out.items (type_cell c.args.row.now) ((range_cell c.args.row.now.min c.args.row.now.max) ++ ((number_cell
    c.args.times) ++ (value_cell c.args.names.now c.args.row.now.reference c.args.row.now.codes)))
    c.in_ok-append_type_cell.ensures (two c.append_type_cell.new.out.items c.append_range_cell.new.out.items
    c.append_row_values.new.out.items (range_cell c.args.row.now.min c.args.row.now.max) ((number_cell c.args.times) ++ (value_cell
    c.args.names.now c.args.row.now.reference c.args.row.now.codes))
    c.in_ok-append_range_cell.ensures (two c.append_range_cell.new.out.items c.append_number_cell.new.out.items
    c.append_row_values.new.out.items (number_cell c.args.times) (value_cell c.args.names.now c.args.row.now.reference
    c.args.row.now.codes)
    c.in_ok-append_number_cell.ensures adds)))))))
    c.append_row_values.ensures
