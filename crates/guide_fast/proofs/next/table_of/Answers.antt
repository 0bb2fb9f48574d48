use Rattle.guide_fast.proofs.Tabled.{table_of_loop}
use Rattle.guide_fast.proofs.next.table_of.Goals as goal

pub returns-in-Loop-clause-tables : goal.returns-in-Loop-clause-tables
returns-in-Loop-clause-tables c =
    (table_of_loop c.args.tables.now c.args.node.now c.in-Loop.head c.in-Loop.field-1 c.get.result c.in-Loop.is
    (c.get.ensures.lookup.1, c.get.ensures.lookup.3) c.requires).0

pub returns-in-Loop-clause-fit : goal.returns-in-Loop-clause-fit
returns-in-Loop-clause-fit c =
    (table_of_loop c.args.tables.now c.args.node.now c.in-Loop.head c.in-Loop.field-1 c.get.result c.in-Loop.is
    (c.get.ensures.lookup.1, c.get.ensures.lookup.3) c.requires).1

pub returns-in-Loop-clause-shape : goal.returns-in-Loop-clause-shape
returns-in-Loop-clause-shape c =
    (table_of_loop c.args.tables.now c.args.node.now c.in-Loop.head c.in-Loop.field-1 c.get.result c.in-Loop.is
    (c.get.ensures.lookup.1, c.get.ensures.lookup.3) c.requires).2
