use Rattle.std.proofs.Common.{◌≡◌, ◌++◌, drop}
use Rattle.std.specs.List.{flat_map}
use Rattle.guide_page.specs.Conditions.{condition_item}
use Rattle.guide_page.proofs.conditions.append_condition_items.Given as goal

abbrev pub invariant-loop-i : goal.invariant-loop-i
invariant-loop-i l = l.out.items ++ flat_map (condition_item l.id) (drop l.i l.conditions) ≡ l.initial.out.items ++ flat_map
    (condition_item l.id) l.conditions
