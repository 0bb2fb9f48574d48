use Rattle.std.proofs.Common.{List, ℕ, subst}
use Rattle.set_walk.specs.Told.{IsTold, Adds}
use Rattle.set_walk.proofs.Telling.{told_adds}
use Rattle.set_walk.proofs.told.tell_found.Goals as goal

pub returns : goal.returns
returns c =
    subst (λ (l : List ℕ). Adds c.args.faults.now c.tell.new.faults
    (IsTold c.args.position c.args.seg.now l c.args.slot.now))
    c.loop_id_of-loop_id.ensures
    (told_adds c.args.faults.now c.tell.new.faults c.args.found.items c.args.position c.args.seg.now
    c.loop_id_of-loop_id.result.now c.args.slot.now c.in_ok-tell.ensures c.requires)
