use Rattle.std.proofs.Common.{List, sym, subst}
use Rattle.guide_tree.specs.declared.node.Node.{Node}
use Rattle.guide_tree.specs.Words.{nodes_view}
use Rattle.guide_fast.specs.Tables.{trees_in, HasTables}
use Rattle.guide_fast.proofs.Tabled.{top_has}
use Rattle.guide_fast.proofs.fast.FastGuide.is_end_silent.Goals as goal

pub is_end_silent-requires-clause-tables : goal.is_end_silent-requires-clause-tables
is_end_silent-requires-clause-tables c =
    let rows = c.self.inside.guide.now in
    let tables = c.self.inside.tables.items in
    let top = c.index.result.now in
    subst (λ (l : List (List Node)). HasTables (trees_in l) (nodes_view top)) (sym c.as_slice.ensures.value)
    (top_has rows tables top c.self.invariant.0 c.rows-accepted.ensures.accepted.numbered c.index.ensures).0
