use Rattle.std.proofs.Common.{List, subst}
use Rattle.x12_segs.specs.Words.{SegValue}
use Rattle.set_check.specs.Placed.{IsPlacedBy}
use Rattle.set_check.proofs.body.body_faults.Goals as goal

pub placed_faults-requires-clause-placed : goal.placed_faults-requires-clause-placed
placed_faults-requires-clause-placed c =
    subst (λ (l : List SegValue). IsPlacedBy c.args.guide.now l c.in_ok-placing.placing) c.inner_of.ensures (record {
      places = c.in_ok-placing.ensures.places;
      slots = c.in_ok-placing.ensures.slots;
      faults = c.in_ok-placing.ensures.faults;
      rising = c.in_ok-placing.ensures.rising;
    })
