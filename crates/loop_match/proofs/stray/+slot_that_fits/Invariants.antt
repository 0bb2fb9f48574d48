use Rattle.std.proofs.Common.{◌≡◌, drop}
use Rattle.x12_segs.specs.Words.{elements_of}
use Rattle.guide_tree.specs.Words.{find_slot, fits, nodes_view}
use Rattle.loop_match.proofs.stray.+slot_that_fits.Given as goal

abbrev pub decreases-slot_that_fits : goal.decreases-slot_that_fits
decreases-slot_that_fits l = goal.size-slot_that_fits l

abbrev pub invariant-loop-node : goal.invariant-loop-node
invariant-loop-node l =
    find_slot (λ slot. fits slot (elements_of l.seg)) (nodes_view (drop l.node-index l.nodes))
    ≡ find_slot (λ slot. fits slot (elements_of l.seg)) (nodes_view l.nodes)
