use Rattle.std.proofs.Common.{◌++◌}
use Rattle.std.specs.Prelude.{codes}
use Rattle.std.proofs.lemmas.Result.{on_ok_weaker}
use Rattle.guide_page.proofs.Growing.{two}
use Rattle.guide_page.specs.Conditions.{condition_item, pick_item}
use Rattle.guide_page.specs.Tags.{list_part}
use Rattle.guide_page.proofs.sections.append_rules.Goals as goal

pub returns : goal.returns
returns c =
    on_ok_weaker c.append_slot_conditions.result (λ adds. two c.args.out.now.items c.append_slot_picks.new.out.items
    c.append_slot_conditions.new.out.items (list_part (pick_item c.args.slot.now.id) c.args.slot.now.picks) (list_part (condition_item
    c.args.slot.now.id) c.args.slot.now.conditions)
    c.in_ok-append_slot_picks.ensures adds)
    c.append_slot_conditions.ensures
