use Rattle.std.proofs.Common.{◌++◌}
use Rattle.std.specs.Prelude.{codes}
use Rattle.std.proofs.lemmas.Result.{on_ok_weaker}
use Rattle.guide_page.proofs.Growing.{two}
use Rattle.guide_page.specs.Rules.{convention_part}
use Rattle.guide_page.specs.Tags.{code_part}
use Rattle.guide_page.proofs.rules.append_head.Goals as goal

pub returns : goal.returns
returns c =
    on_ok_weaker c.append_convention.result (λ adds. two c.args.out.now.items c.append_fixed.new.out.items
    c.append_convention.new.out.items (codes "<p>Group (GS01) ") ((code_part c.args.head.now.group) ++ ((codes "<br>\nVersion (GS08) ") ++
    ((code_part c.args.head.now.version) ++ (convention_part c.args.head.now.convention))))
    c.in_ok-append_fixed.ensures (two c.append_fixed.new.out.items c.append_text.new.out.items c.append_convention.new.out.items
    (code_part c.args.head.now.group) ((codes "<br>\nVersion (GS08) ") ++ ((code_part c.args.head.now.version) ++ (convention_part
    c.args.head.now.convention)))
    c.in_ok-append_text.ensures (two c.append_text.new.out.items c.append_fixed-2.new.out.items c.append_convention.new.out.items (codes
    "<br>\nVersion (GS08) ") ((code_part c.args.head.now.version) ++ (convention_part c.args.head.now.convention))
    c.in_ok-append_fixed-2.ensures (two c.append_fixed-2.new.out.items c.append_text-2.new.out.items c.append_convention.new.out.items
    (code_part c.args.head.now.version) (convention_part c.args.head.now.convention)
    c.in_ok-append_text-2.ensures adds))))
    c.append_convention.ensures
