use Rattle.std.proofs.Common.{◌≡◌, ◌++◌, drop}
use Rattle.std.specs.List.{flat_map}
use Rattle.guide_widening.specs.Written.{position_text}
use Rattle.guide_widening.proofs.written.append_positions.Given as goal

abbrev pub invariant-loop-i : goal.invariant-loop-i
invariant-loop-i l = l.out.items ++ flat_map position_text (drop l.i l.positions) ≡ l.initial.out.items
    ++ flat_map position_text l.positions
