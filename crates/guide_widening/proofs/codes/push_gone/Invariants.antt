use Rattle.std.proofs.Common.{◌≡◌, ◌++◌, drop}
use Rattle.guide_widening.specs.Changes.{gone_texts}
use Rattle.guide_widening.proofs.codes.push_gone.Given as goal

abbrev pub invariant-loop-i : goal.invariant-loop-i
invariant-loop-i l = l.found.items ++ gone_texts l.at l.key l.other (drop l.i l.texts) ≡ l.initial.found.items
    ++ gone_texts l.at l.key l.other l.texts
