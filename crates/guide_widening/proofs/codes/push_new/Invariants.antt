use Rattle.std.proofs.Common.{◌≡◌, ◌++◌, drop}
use Rattle.guide_widening.specs.Changes.{new_texts}
use Rattle.guide_widening.proofs.codes.push_new.Given as goal

abbrev pub invariant-loop-i : goal.invariant-loop-i
invariant-loop-i l = l.found.items ++ new_texts l.at l.key l.other (drop l.i l.texts) ≡ l.initial.found.items
    ++ new_texts l.at l.key l.other l.texts
