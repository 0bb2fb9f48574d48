use Rattle.std.proofs.Common.{◌≡◌, ◌++◌, drop}
use Rattle.std.specs.List.{flat_map}
use Rattle.guide_widening.specs.Written.{more_text}
use Rattle.guide_widening.proofs.written.append_rest.Given as goal

abbrev pub invariant-loop-i : goal.invariant-loop-i
invariant-loop-i l = l.out.items ++ flat_map more_text (drop l.i l.texts) ≡ l.initial.out.items ++ flat_map more_text l.texts
