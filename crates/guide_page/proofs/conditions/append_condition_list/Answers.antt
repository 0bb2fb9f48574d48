use Rattle.std.proofs.Common.{◌++◌}
use Rattle.std.specs.Prelude.{codes}
use Rattle.std.proofs.lemmas.Result.{on_ok_weaker}
use Rattle.guide_page.proofs.Growing.{two}
use Rattle.guide_page.specs.Conditions.{condition_item}
use Rattle.std.specs.List.{flat_map}
use Rattle.guide_page.proofs.conditions.append_condition_list.Goals as goal

pub returns : goal.returns
returns c =
    on_ok_weaker c.append_fixed-2.result (λ adds. two c.args.out.now.items c.append_fixed.new.out.items c.append_fixed-2.new.out.items
    (codes "<ul>\n") ((flat_map (condition_item c.args.id.now) c.args.conditions.now) ++ (codes "</ul>\n"))
    c.in_ok-append_fixed.ensures (two c.append_fixed.new.out.items c.append_condition_items.new.out.items c.append_fixed-2.new.out.items
    (flat_map (condition_item c.args.id.now) c.args.conditions.now) (codes "</ul>\n")
    c.in_ok-append_condition_items.ensures adds))
    c.append_fixed-2.ensures
