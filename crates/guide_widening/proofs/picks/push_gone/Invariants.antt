use Rattle.std.proofs.Common.{◌≡◌, ◌++◌, drop}
use Rattle.guide_widening.specs.Changes.{items_differences}
use Rattle.guide_widening.specs.NodeDifferences.{is_pick_kept, pick_beside}
use Rattle.guide_widening.specs.declared.difference.Change.TheVariants.{Wider}
use Rattle.guide_widening.specs.declared.difference.Key.TheVariants as key
use Rattle.guide_widening.proofs.picks.push_gone.Given as goal

abbrev pub invariant-loop-i : goal.invariant-loop-i
invariant-loop-i l =
    l.found.items ++ items_differences (is_pick_kept l.new) l.at key.Pick Wider (pick_beside l.old) (pick_beside l.new) (drop l.i l.old)
    ≡ l.initial.found.items ++ items_differences (is_pick_kept l.new) l.at key.Pick Wider (pick_beside l.old) (pick_beside l.new) l.old
