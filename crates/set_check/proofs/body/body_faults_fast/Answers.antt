use Rattle.std.proofs.Common.{List, Some, IfOk, subst, sym}
use Rattle.x12_segs.specs.Words.{SegValue}
use Rattle.guide_tree.specs.declared.rows.GuideRows.{GuideRows}
use Rattle.guide_tree.specs.Words.{guide_of}
use Rattle.set_check.specs.Placed.{IsPlacedBy}
use Rattle.set_check.specs.SetFaults.{AreSetFaults}
use Rattle.set_check.specs.SetParts.{parts_of, inner_of}
use Rattle.set_check.proofs.body.body_faults_fast.Goals as goal

pub placed_faults-requires-clause-placed : goal.placed_faults-requires-clause-placed
placed_faults-requires-clause-placed c =
    subst (λ (rows : GuideRows). IsPlacedBy rows (inner_of c.args.set.now.closed c.args.segs.now) c.in_ok-placing.placing)
    (sym c.guide.ensures)
    (subst (λ (l : List SegValue). IsPlacedBy c.args.fast.now l c.in_ok-placing.placing) c.inner_of.ensures (record {
      places = c.in_ok-placing.ensures.places;
      slots = c.in_ok-placing.ensures.slots;
      faults = c.in_ok-placing.ensures.faults;
      rising = c.in_ok-placing.ensures.rising;
    }))

pub returns-clause-exact : goal.returns-clause-exact
returns-clause-exact c =
    subst (λ (rows : GuideRows). IfOk c.placed_faults.result (λ v. AreSetFaults (Some (guide_of rows))
    (parts_of c.args.set.now.delims c.args.set.now.closed c.args.segs.now) v)) c.guide.ensures c.placed_faults.ensures.exact
