use Rattle.std.proofs.Common.{◌++◌, []}
use Rattle.std.specs.Prelude.{codes, decimal}
use Rattle.std.specs.List.{flat_map}
use Rattle.std.proofs.lemmas.Result.{on_ok_weaker}
use Rattle.guide_page.proofs.Growing.{two}
use Rattle.guide_page.specs.Nodes.{all_sections}
use Rattle.guide_tree.specs.Words.{nodes_view}
use Rattle.guide_page.proofs.sections.append_sections.Goals as goal

pub returns : goal.returns
returns c =
    on_ok_weaker c.append_nodes.result (λ adds. (two c.args.out.now.items c.append_fixed.new.out.items c.append_nodes.new.out.items
    (codes "<h2>Each segment</h2>\n") (all_sections c.args.names.now [] (nodes_view c.args.nodes.now))
    c.in_ok-append_fixed.ensures adds))
    c.append_nodes.ensures
