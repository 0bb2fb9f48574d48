use Rattle.std.proofs.Common.{◌≡◌, ◌==◌, drop, map}
use Rattle.std.specs.List.{list_any}
use Rattle.guide_tree.specs.Conditions.{pick_position}
use Rattle.guide_tree.proofs.conditions.has_position.Given as goal

abbrev pub invariant-loop-pick : goal.invariant-loop-pick
invariant-loop-pick l =
    list_any (λ other. l.position == other) (map pick_position (drop l.pick-index l.picks)) ≡ list_any
    (λ other. l.position == other) (map pick_position l.picks)
