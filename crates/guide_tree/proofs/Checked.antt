-- Rows whose nodes were numbered.
use Rattle.std.proofs.Common.{◌≡◌, Some, None, sym, ap, ◌∙◌, subst}
use Rattle.std.specs.Prelude.{Vec}
use Rattle.std.specs.declared.alloc.Global.{Global}
use Rattle.guide_tree.specs.declared.fault.GuideFault.{GuideFault}
use Rattle.guide_tree.specs.declared.node.Node.{Node}
use Rattle.guide_tree.specs.declared.rows.GuideRows.{GuideRows}
use Rattle.guide_tree.specs.Tree.{Trees, GuideTree, numbered, with_slot_numbers}
use Rattle.guide_tree.specs.View.{guide_of, numbered_guide, nodes_view}
use Rattle.guide_tree.specs.Accepted.{IsAccepted}
use Rattle.guide_tree.specs.Faults.{IsFirstFault, IsWellFormed}
use Rattle.guide_tree.specs.Judging.{first_in_size, first_in_rows}
use Rattle.guide_tree.proofs.NumberLaws.{numbered-again}
use Rattle.guide_tree.proofs.Judged.{refused_for_rows, accepted}

abbrev with_trees : GuideTree → Trees → GuideTree
with_trees g ts = record g { nodes = ts }

pub renumbered : (rows : GuideRows) (nodes : Vec Node Global)
    → nodes_view nodes.items ≡ numbered 1 (nodes_view rows.nodes.items)
    → guide_of (record rows { nodes = nodes }) ≡ numbered_guide rows
renumbered rows nodes e = ap (with_trees (guide_of rows)) e

again : (g : GuideTree) → with_slot_numbers (with_slot_numbers g) ≡ with_slot_numbers g
again g = ap (with_trees g) (numbered-again 1 g.nodes)

pub accepted_rows : (rows : GuideRows) (nodes : Vec Node Global)
    → nodes_view nodes.items ≡ numbered 1 (nodes_view rows.nodes.items)
    → first_in_size (guide_of rows) ≡ None → first_in_rows (guide_of (record rows { nodes = nodes })) ≡ None
    → IsAccepted (record rows { nodes = nodes })
accepted_rows rows nodes e small clean =
    let r = renumbered rows nodes e in
    record {
      numbered = r ∙ sym (ap with_slot_numbers r ∙ again (guide_of rows));
      well_formed = subst IsWellFormed (sym r) (accepted (guide_of rows) small (ap first_in_rows (sym r) ∙ clean));
    }

pub refused_rows : (rows : GuideRows) (nodes : Vec Node Global) (f : GuideFault)
    → nodes_view nodes.items ≡ numbered 1 (nodes_view rows.nodes.items)
    → first_in_size (guide_of rows) ≡ None → first_in_rows (guide_of (record rows { nodes = nodes })) ≡ Some f
    → IsFirstFault (numbered_guide rows) f
refused_rows rows nodes f e small found =
    refused_for_rows (guide_of rows) f small (ap first_in_rows (sym (renumbered rows nodes e)) ∙ found)
