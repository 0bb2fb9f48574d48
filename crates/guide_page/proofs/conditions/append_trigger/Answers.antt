use Rattle.std.proofs.Common.{◌++◌}
use Rattle.std.specs.Prelude.{codes}
use Rattle.std.proofs.lemmas.Result.{on_ok_weaker}
use Rattle.guide_page.proofs.Growing.{two}
use Rattle.guide_page.specs.Tags.{code_part, codes_part}
use Rattle.std.specs.Prelude.{decimal}
use Rattle.guide_page.proofs.conditions.append_trigger.Goals as goal

pub returns : goal.returns
returns c =
    on_ok_weaker c.append_fixed-4.result (λ adds. two c.args.out.now.items c.append_fixed.new.out.items c.append_fixed-4.new.out.items
    (codes "<li>If element ") ((decimal c.args.dependency.now.at) ++ ((codes " of ") ++ ((code_part c.args.dependency.now.slot) ++
    ((codes "is one of ") ++ ((codes_part c.args.dependency.now.codes) ++ (codes ": "))))))
    c.in_ok-append_fixed.ensures (two c.append_fixed.new.out.items c.append_small.new.out.items c.append_fixed-4.new.out.items (decimal
    c.args.dependency.now.at) ((codes " of ") ++ ((code_part c.args.dependency.now.slot) ++ ((codes "is one of ") ++ ((codes_part
    c.args.dependency.now.codes) ++ (codes ": ")))))
    c.in_ok-append_small.ensures (two c.append_small.new.out.items c.append_fixed-2.new.out.items c.append_fixed-4.new.out.items (codes
    " of ") ((code_part c.args.dependency.now.slot) ++ ((codes "is one of ") ++ ((codes_part c.args.dependency.now.codes) ++ (codes
    ": "))))
    c.in_ok-append_fixed-2.ensures (two c.append_fixed-2.new.out.items c.append_text.new.out.items c.append_fixed-4.new.out.items
    (code_part c.args.dependency.now.slot) ((codes "is one of ") ++ ((codes_part c.args.dependency.now.codes) ++ (codes ": ")))
    c.in_ok-append_text.ensures (two c.append_text.new.out.items c.append_fixed-3.new.out.items c.append_fixed-4.new.out.items (codes
    "is one of ") ((codes_part c.args.dependency.now.codes) ++ (codes ": "))
    c.in_ok-append_fixed-3.ensures (two c.append_fixed-3.new.out.items c.append_code_list.new.out.items c.append_fixed-4.new.out.items
    (codes_part c.args.dependency.now.codes) (codes ": ")
    c.in_ok-append_code_list.ensures adds))))))
    c.append_fixed-4.ensures
