use Rattle.std.proofs.Common.{◌++◌}
use Rattle.std.specs.Prelude.{codes}
use Rattle.std.proofs.lemmas.Result.{on_ok_weaker}
use Rattle.guide_page.proofs.Growing.{two}
use Rattle.guide_page.specs.Conditions.{pick_item}
use Rattle.std.specs.List.{flat_map}
use Rattle.guide_page.proofs.conditions.append_pick_list.Goals as goal

pub returns : goal.returns
returns c =
    on_ok_weaker c.append_fixed-2.result (λ adds. two c.args.out.now.items c.append_fixed.new.out.items c.append_fixed-2.new.out.items
    (codes "<ul>\n") ((flat_map (pick_item c.args.id.now) c.args.picks.now) ++ (codes "</ul>\n"))
    c.in_ok-append_fixed.ensures (two c.append_fixed.new.out.items c.append_pick_items.new.out.items c.append_fixed-2.new.out.items
    (flat_map (pick_item c.args.id.now) c.args.picks.now) (codes "</ul>\n")
    c.in_ok-append_pick_items.ensures adds))
    c.append_fixed-2.ensures
