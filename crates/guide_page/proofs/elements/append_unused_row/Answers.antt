use Rattle.std.proofs.Common.{◌++◌, []}
use Rattle.std.specs.Prelude.{codes, decimal}
use Rattle.std.specs.List.{flat_map}
use Rattle.std.proofs.lemmas.Result.{on_ok_weaker}
use Rattle.guide_page.proofs.Growing.{two}
use Rattle.guide_page.specs.Named.{reference_cell}
use Rattle.guide_page.specs.Tags.{row_head}
use Rattle.guide_page.proofs.elements.append_unused_row.Goals as goal

pub returns : goal.returns
returns c =
    on_ok_weaker c.append_fixed.result (λ adds. (two c.args.out.now.items c.append_row_head.new.out.items c.append_fixed.new.out.items
    (row_head c.args.name.now) ((reference_cell c.args.names.now c.args.reference.now) ++ (codes
    "<td>not used</td><td></td><td></td><td></td><td></td></tr>\n"))
    c.in_ok-append_row_head.ensures (two c.append_row_head.new.out.items c.append_reference_cell.new.out.items
    c.append_fixed.new.out.items (reference_cell c.args.names.now c.args.reference.now) (codes
    "<td>not used</td><td></td><td></td><td></td><td></td></tr>\n")
    c.in_ok-append_reference_cell.ensures adds)))
    c.append_fixed.ensures
