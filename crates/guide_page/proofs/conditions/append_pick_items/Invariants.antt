use Rattle.std.proofs.Common.{◌≡◌, ◌++◌, drop}
use Rattle.std.specs.List.{flat_map}
use Rattle.guide_page.specs.Conditions.{pick_item}
use Rattle.guide_page.proofs.conditions.append_pick_items.Given as goal

abbrev pub invariant-loop-i : goal.invariant-loop-i
invariant-loop-i l = l.out.items ++ flat_map (pick_item l.id) (drop l.i l.picks) ≡ l.initial.out.items ++ flat_map (pick_item l.id) l.picks
