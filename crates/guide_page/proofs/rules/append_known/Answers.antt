use Rattle.std.proofs.Common.{◌++◌}
use Rattle.std.specs.Prelude.{codes}
use Rattle.std.proofs.lemmas.Result.{on_ok_weaker}
use Rattle.guide_page.proofs.Growing.{two}
use Rattle.guide_page.specs.Tags.{codes_part}
use Rattle.guide_page.proofs.rules.append_known.Goals as goal

pub returns : goal.returns
returns c =
    on_ok_weaker c.append_fixed-2.result (λ adds. two c.args.out.now.items c.append_fixed.new.out.items c.append_fixed-2.new.out.items
    (codes "<p>Known, and not in this set: ") ((codes_part c.args.ids.now) ++ (codes "</p>\n"))
    c.in_ok-append_fixed.ensures (two c.append_fixed.new.out.items c.append_codes.new.out.items c.append_fixed-2.new.out.items
    (codes_part c.args.ids.now) (codes "</p>\n")
    c.in_ok-append_codes.ensures adds))
    c.append_fixed-2.ensures
