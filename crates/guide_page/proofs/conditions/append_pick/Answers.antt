use Rattle.std.proofs.Common.{◌++◌}
use Rattle.std.specs.Prelude.{codes}
use Rattle.std.proofs.lemmas.Result.{on_ok_weaker}
use Rattle.guide_page.proofs.Growing.{two}
use Rattle.guide_page.specs.Conditions.{position_part}
use Rattle.guide_page.specs.Tags.{codes_part}
use Rattle.guide_page.proofs.conditions.append_pick.Goals as goal

pub returns : goal.returns
returns c =
    on_ok_weaker c.append_fixed-3.result (λ adds. two c.args.out.now.items c.append_fixed.new.out.items c.append_fixed-3.new.out.items
    (codes "<li>Only if ") ((position_part c.args.id.now c.args.pick.now.position) ++ ((codes "is one of ") ++ ((codes_part
    c.args.pick.now.codes) ++ (codes "</li>\n"))))
    c.in_ok-append_fixed.ensures (two c.append_fixed.new.out.items c.append_position.new.out.items c.append_fixed-3.new.out.items
    (position_part c.args.id.now c.args.pick.now.position) ((codes "is one of ") ++ ((codes_part c.args.pick.now.codes) ++ (codes
    "</li>\n")))
    c.in_ok-append_position.ensures (two c.append_position.new.out.items c.append_fixed-2.new.out.items c.append_fixed-3.new.out.items
    (codes "is one of ") ((codes_part c.args.pick.now.codes) ++ (codes "</li>\n"))
    c.in_ok-append_fixed-2.ensures (two c.append_fixed-2.new.out.items c.append_code_list.new.out.items c.append_fixed-3.new.out.items
    (codes_part c.args.pick.now.codes) (codes "</li>\n")
    c.in_ok-append_code_list.ensures adds))))
    c.append_fixed-3.ensures
