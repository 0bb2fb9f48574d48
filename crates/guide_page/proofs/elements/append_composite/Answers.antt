use Rattle.std.proofs.Common.{◌++◌, []}
use Rattle.std.specs.Prelude.{codes, decimal}
use Rattle.std.specs.List.{flat_map}
use Rattle.std.proofs.lemmas.Result.{on_ok_weaker}
use Rattle.guide_page.proofs.Growing.{two}
use Rattle.guide_page.specs.Elements.{component_rows, composite_row}
use Rattle.guide_page.proofs.elements.append_composite.Goals as goal

pub returns : goal.returns
returns c =
    on_ok_weaker c.append_component_rows.result (λ adds. (two c.args.out.now.items c.append_composite_row.new.out.items
    c.append_component_rows.new.out.items (composite_row c.args.names.now c.args.name.now c.args.row.now) (component_rows
    c.args.names.now c.args.name.now 1 c.args.row.now.components)
    c.in_ok-append_composite_row.ensures adds))
    c.append_component_rows.ensures
