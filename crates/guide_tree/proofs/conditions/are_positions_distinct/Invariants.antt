use Rattle.std.proofs.Common.{◌≡◌, drop, map}
use Rattle.guide_tree.specs.Conditions.{is_distinct, pick_position}
use Rattle.guide_tree.proofs.conditions.are_positions_distinct.Given as goal

abbrev pub invariant-loop-i : goal.invariant-loop-i
invariant-loop-i l = is_distinct (map pick_position (drop l.i l.picks)) ≡ is_distinct (map pick_position l.picks)
