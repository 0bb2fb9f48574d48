use Rattle.std.proofs.Common.{◌++◌, []}
use Rattle.std.specs.Prelude.{codes, decimal}
use Rattle.std.specs.List.{flat_map}
use Rattle.std.proofs.lemmas.Result.{on_ok_weaker}
use Rattle.guide_page.proofs.Growing.{two}
use Rattle.guide_page.specs.Tags.{tagged}
use Rattle.guide_page.specs.Named.{name_part}
use Rattle.guide_names.specs.Names.{segment_name}
use Rattle.guide_page.proofs.nodes.append_link.Goals as goal

pub returns : goal.returns
returns c =
    on_ok_weaker c.append_fixed-2.result (λ adds. (two c.args.out.now.items c.append_fixed.new.out.items c.append_fixed-2.new.out.items
    (codes "<tr><th scope=\"row\"><a href=\"#s") ((decimal c.args.slot.now.number) ++ ((tagged (codes "\">") c.args.path.now (codes
    "</a>")) ++ ((name_part (segment_name c.args.names.now c.args.slot.now.id)) ++ (codes "</th>"))))
    c.in_ok-append_fixed.ensures (two c.append_fixed.new.out.items c.append_small.new.out.items c.append_fixed-2.new.out.items (decimal
    c.args.slot.now.number) ((tagged (codes "\">") c.args.path.now (codes "</a>")) ++ ((name_part (segment_name c.args.names.now
    c.args.slot.now.id)) ++ (codes "</th>")))
    c.in_ok-append_small.ensures (two c.append_small.new.out.items c.append_tagged.new.out.items c.append_fixed-2.new.out.items (tagged
    (codes "\">") c.args.path.now (codes "</a>")) ((name_part (segment_name c.args.names.now c.args.slot.now.id)) ++ (codes "</th>"))
    c.in_ok-append_tagged.ensures (two c.append_tagged.new.out.items c.append_slot_name.new.out.items c.append_fixed-2.new.out.items
    (name_part (segment_name c.args.names.now c.args.slot.now.id)) (codes "</th>")
    c.in_ok-append_slot_name.ensures adds)))))
    c.append_fixed-2.ensures
