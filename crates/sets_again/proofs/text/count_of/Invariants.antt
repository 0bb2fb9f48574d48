use Rattle.std.proofs.Common.{◌≡◌, take}
use Rattle.std.specs.List.{count_by}
use Rattle.sets_again.proofs.text.count_of.Given as goal

abbrev pub invariant-loop-is : goal.invariant-loop-is
invariant-loop-is l = l.count ≡ count_by (λ is. is) (take l.is-index l.chosen)
