use Rattle.std.proofs.Common.{◌++◌}
use Rattle.std.specs.Prelude.{codes}
use Rattle.std.proofs.lemmas.Result.{on_ok_weaker}
use Rattle.guide_page.proofs.Growing.{two}
use Rattle.guide_page.specs.Rules.{parent_part}
use Rattle.guide_page.specs.Tags.{code_part}
use Rattle.guide_page.proofs.rules.append_pair.Goals as goal

pub returns : goal.returns
returns c =
    on_ok_weaker c.append_parent.result (λ adds. two c.args.out.now.items c.append_fixed.new.out.items c.append_parent.new.out.items
    (codes "<li>") ((code_part c.args.pair.now.child) ++ (parent_part c.args.pair.now.parent))
    c.in_ok-append_fixed.ensures (two c.append_fixed.new.out.items c.append_text.new.out.items c.append_parent.new.out.items (code_part
    c.args.pair.now.child) (parent_part c.args.pair.now.parent)
    c.in_ok-append_text.ensures adds))
    c.append_parent.ensures
