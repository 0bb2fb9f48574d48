use Rattle.std.proofs.Common.{List, get_or, subst, sym, ap, ◌∙◌, rules}
use Rattle.guide_tree.specs.declared.node.Node.{Node}
use Rattle.guide_tree.specs.Words.{view}
use Rattle.guide_fast.specs.Tables.{trees_in, HasTablesIn}
use Rattle.guide_fast.proofs.Tabled.{tables_at}
use Rattle.guide_fast.proofs.next.node_at.Goals as goal

pub returns-clause-tables : goal.returns-clause-tables
returns-clause-tables c =
    let n = c.index-nodes-child.result in
    let k = c.args.child in
    subst (λ (m : Node). HasTablesIn (trees_in c.args.tables.now) (view m))
    (sym (c.index-nodes-child.is ∙ ap (λ (l : List Node). get_or l k n) c.nodes-nodes.ensures))
    (tables_at (trees_in c.args.tables.now) c.args.here.now k n c.requires (search rules))
