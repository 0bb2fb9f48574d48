use Rattle.std.proofs.Common.{◌≡◌, ◌++◌, map}
use Rattle.x12_segs.specs.Words.{elements_of}
use Rattle.set_walk.specs.Told.{fault_of_element}
use Rattle.set_walk.proofs.told.tell.Given as goal

abbrev pub invariant-loop-elem : goal.invariant-loop-elem
invariant-loop-elem l = l.faults ≡ l.initial.faults ++ map (fault_of_element l.position
    (elements_of l.seg) l.loop_id l.slot) l.yielded
