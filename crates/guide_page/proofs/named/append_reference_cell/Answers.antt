use Rattle.std.proofs.Common.{◌++◌, []}
use Rattle.std.specs.Prelude.{codes, decimal}
use Rattle.std.specs.List.{flat_map}
use Rattle.std.proofs.lemmas.Result.{on_ok_weaker}
use Rattle.guide_page.proofs.Growing.{two}
use Rattle.guide_page.specs.Tags.{tagged}
use Rattle.guide_page.specs.Named.{name_part}
use Rattle.guide_names.specs.Names.{element_name}
use Rattle.guide_page.proofs.named.append_reference_cell.Goals as goal

pub returns : goal.returns
returns c =
    on_ok_weaker c.append_fixed.result (λ adds. (two c.args.out.now.items c.append_tagged.new.out.items c.append_fixed.new.out.items
    (tagged (codes "<td>") c.args.reference.now []) ((name_part (element_name c.args.names.now c.args.reference.now)) ++ (codes "</td>"))
    c.in_ok-append_tagged.ensures (two c.append_tagged.new.out.items c.append_element_name.new.out.items c.append_fixed.new.out.items
    (name_part (element_name c.args.names.now c.args.reference.now)) (codes "</td>")
    c.in_ok-append_element_name.ensures adds)))
    c.append_fixed.ensures
