use Rattle.std.proofs.Common.{◌++◌, []}
use Rattle.std.specs.Prelude.{codes, decimal}
use Rattle.std.specs.List.{flat_map}
use Rattle.std.proofs.lemmas.Result.{on_ok_weaker}
use Rattle.guide_page.proofs.Growing.{two}
use Rattle.guide_page.specs.Elements.{values_part}
use Rattle.guide_page.proofs.elements.append_value_cell.Goals as goal

pub returns : goal.returns
returns c =
    on_ok_weaker c.append_fixed-2.result (λ adds. (two c.args.out.now.items c.append_fixed.new.out.items c.append_fixed-2.new.out.items
    (codes "<td>") ((values_part c.args.names.now c.args.reference.now c.args.codes.now) ++ (codes "</td></tr>\n"))
    c.in_ok-append_fixed.ensures (two c.append_fixed.new.out.items c.append_values.new.out.items c.append_fixed-2.new.out.items
    (values_part c.args.names.now c.args.reference.now c.args.codes.now) (codes "</td></tr>\n")
    c.in_ok-append_values.ensures adds)))
    c.append_fixed-2.ensures
