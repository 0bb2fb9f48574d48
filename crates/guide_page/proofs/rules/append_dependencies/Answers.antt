use Rattle.std.proofs.Common.{◌++◌}
use Rattle.std.specs.Prelude.{codes}
use Rattle.std.proofs.lemmas.Result.{on_ok_weaker}
use Rattle.guide_page.proofs.Growing.{two}
use Rattle.guide_page.specs.Conditions.{dependency_item}
use Rattle.guide_page.specs.Tags.{whole_list}
use Rattle.guide_page.proofs.rules.append_dependencies.Goals as goal

pub returns : goal.returns
returns c =
    on_ok_weaker c.append_dependency_list.result (λ adds. two c.args.out.now.items c.append_fixed.new.out.items
    c.append_dependency_list.new.out.items (codes "<h2>Dependencies</h2>\n") (whole_list dependency_item c.args.depends.now)
    c.in_ok-append_fixed.ensures adds)
    c.append_dependency_list.ensures
