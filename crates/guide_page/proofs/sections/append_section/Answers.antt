use Rattle.std.proofs.Common.{◌++◌, []}
use Rattle.std.specs.Prelude.{codes, decimal}
use Rattle.std.specs.List.{flat_map}
use Rattle.std.proofs.lemmas.Result.{on_ok_weaker}
use Rattle.guide_page.proofs.Growing.{two}
use Rattle.guide_page.specs.Nodes.{element_table, label_part, rules_part, section_head}
use Rattle.guide_page.proofs.sections.append_section.Goals as goal

pub returns : goal.returns
returns c =
    on_ok_weaker c.append_rules.result (λ adds. (two c.args.out.now.items c.append_section_head.new.out.items
    c.append_rules.new.out.items (section_head c.args.names.now c.args.path.now c.args.slot.now) ((label_part c.args.names.now
    c.args.slot.now.label) ++ ((element_table c.args.names.now c.args.slot.now.id c.args.slot.now.elements) ++ (rules_part
    c.args.slot.now)))
    c.in_ok-append_section_head.ensures (two c.append_section_head.new.out.items c.append_label.new.out.items
    c.append_rules.new.out.items (label_part c.args.names.now c.args.slot.now.label) ((element_table c.args.names.now c.args.slot.now.id
    c.args.slot.now.elements) ++ (rules_part c.args.slot.now))
    c.in_ok-append_label.ensures (two c.append_label.new.out.items c.append_slot_elements.new.out.items c.append_rules.new.out.items
    (element_table c.args.names.now c.args.slot.now.id c.args.slot.now.elements) (rules_part c.args.slot.now)
    c.in_ok-append_slot_elements.ensures adds))))
    c.append_rules.ensures
