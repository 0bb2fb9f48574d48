use Rattle.std.proofs.Common.{◌≡◌, ◌++◌, drop}
use Rattle.guide_widening.specs.Changes.{items_differences}
use Rattle.guide_widening.specs.NodeDifferences.{is_pick_kept, pick_beside}
use Rattle.guide_widening.specs.declared.difference.Change.TheVariants.{Narrower}
use Rattle.guide_widening.specs.declared.difference.Key.TheVariants as key
use Rattle.guide_widening.proofs.picks.push_new.Given as goal

abbrev pub invariant-loop-i : goal.invariant-loop-i
invariant-loop-i l =
    l.found.items ++ items_differences (is_pick_kept l.old) l.at key.Pick Narrower (pick_beside l.old) (pick_beside l.new) (drop l.i l.new)
    ≡ l.initial.found.items ++ items_differences (is_pick_kept l.old) l.at key.Pick Narrower (pick_beside l.old) (pick_beside l.new) l.new
