use Rattle.std.proofs.Common.{◌≡◌, not, filter, take}
use Rattle.set_check.specs.Adding.{has_key_among}
use Rattle.set_check.proofs.rules.beside.Given as goal

abbrev pub invariant-loop-i : goal.invariant-loop-i
invariant-loop-i l = l.kept ≡ filter (λ f. not (has_key_among l.sorted f)) (take l.i l.others)
