use Rattle.std.proofs.Common.{◌≡◌, ◌++◌, drop}
use Rattle.sets_again.specs.Text.{chosen_sets}
use Rattle.sets_again.proofs.text.append_sets.Given as goal

abbrev pub invariant-loop-i : goal.invariant-loop-i
invariant-loop-i l =
    l.out.items ++ chosen_sets l.text (drop l.i l.group.sets) (drop l.i l.chosen)
    ≡ l.fn.out.items ++ chosen_sets l.text l.group.sets l.chosen
