use Rattle.std.proofs.Common.{sym}
use Rattle.guide_tree.specs.View.{guide_of}
use Rattle.guide_tree.proofs.Judged.{refused_for_size}
use Rattle.guide_tree.proofs.Checked.{accepted_rows, refused_rows}
use Rattle.guide_tree.proofs.guide.Guide.check.Goals as goal

pub returns-in-Some-clause-refused : goal.returns-in-Some-clause-refused
returns-in-Some-clause-refused c = refused_for_size (guide_of c.args.rows) c.in-Some.fault (sym c.in-Some.ensures)

pub invariant_of-result : goal.invariant_of-result
invariant_of-result c =
    accepted_rows (record c.args.rows { head = _ }) c.number_nodes.new.nodes c.number_nodes.ensures.numbered (sym c.in_default.ensures)
    (sym c.in-None.ensures)

pub returns-in-Some-first_in_nodes-clause-refused : goal.returns-in-Some-first_in_nodes-clause-refused
returns-in-Some-first_in_nodes-clause-refused c =
    refused_rows c.args.rows c.number_nodes.new.nodes c.in-Some-first_in_nodes.fault c.number_nodes.ensures.numbered
    (sym c.in_default.ensures) (sym c.in-Some-first_in_nodes.ensures)

pub returns-in-None-clause-accepted : goal.returns-in-None-clause-accepted
returns-in-None-clause-accepted c =
    accepted_rows (record c.args.rows { head = _ }) c.number_nodes.new.nodes c.number_nodes.ensures.numbered (sym c.in_default.ensures)
    (sym c.in-None.ensures)
