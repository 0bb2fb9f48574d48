use Rattle.std.proofs.Common.{◌≡◌, ◌++◌, drop}
use Rattle.std.specs.List.{flat_map}
use Rattle.guide_page.specs.Conditions.{dependency_item}
use Rattle.guide_page.proofs.conditions.append_dependency_items.Given as goal

abbrev pub invariant-loop-i : goal.invariant-loop-i
invariant-loop-i l = l.out.items ++ flat_map dependency_item (drop l.i l.depends) ≡ l.initial.out.items ++ flat_map dependency_item
    l.depends
