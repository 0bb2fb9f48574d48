use Rattle.std.proofs.Common.{◌≡◌, ◌++◌, drop}
use Rattle.std.specs.List.{flat_map}
use Rattle.guide_page.specs.Conditions.{position_part}
use Rattle.guide_page.proofs.conditions.append_positions.Given as goal

abbrev pub invariant-loop-i : goal.invariant-loop-i
invariant-loop-i l = l.out.items ++ flat_map (position_part l.id) (drop l.i l.positions) ≡ l.initial.out.items ++ flat_map (position_part
    l.id) l.positions
