use Rattle.std.proofs.Common.{◌++◌}
use Rattle.std.specs.Prelude.{codes}
use Rattle.std.proofs.lemmas.Result.{on_ok_weaker}
use Rattle.guide_page.proofs.Growing.{two}
use Rattle.guide_page.specs.Rules.{depends_part, levels_part, tolerated_part}
use Rattle.guide_page.proofs.page.append_set.Goals as goal

pub returns : goal.returns
returns c =
    on_ok_weaker c.append_tolerated.result (λ adds. two c.args.out.now.items c.append_levels.new.out.items
    c.append_tolerated.new.out.items (levels_part c.args.rows.now.hl) ((depends_part c.args.rows.now.depends) ++ (tolerated_part
    c.args.rows.now.head.tolerate_segment c.args.rows.now.head.tolerate_element))
    c.in_ok-append_levels.ensures (two c.append_levels.new.out.items c.append_depends.new.out.items c.append_tolerated.new.out.items
    (depends_part c.args.rows.now.depends) (tolerated_part c.args.rows.now.head.tolerate_segment c.args.rows.now.head.tolerate_element)
    c.in_ok-append_depends.ensures adds))
    c.append_tolerated.ensures
