use Rattle.std.proofs.Common.{◌≡◌, drop, option_map, Bor}
use Rattle.guide_tree.specs.declared.slot.Slot.{Slot}
use Rattle.guide_tree.specs.Rivals.{against_each}
use Rattle.guide_tree.specs.View.{nodes_view}
use Rattle.guide_tree.proofs.rivals.against_each.Given as goal

abbrev pub invariant-loop-node : goal.invariant-loop-node
invariant-loop-node l =
    against_each l.least (option_map (λ (s : Bor Slot). s.now) l.slot)
    (nodes_view (drop l.node-index l.nodes)) ≡ against_each l.fn.best
    (option_map (λ (s : Bor Slot). s.now) l.slot) (nodes_view l.nodes)
