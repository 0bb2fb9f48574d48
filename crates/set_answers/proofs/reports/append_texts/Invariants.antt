use Rattle.std.proofs.Common.{◌≡◌, ◌++◌, take}
use Rattle.x12_write.specs.Group.{texts_in_row}
use Rattle.set_answers.proofs.reports.append_texts.Given as goal

abbrev pub invariant-loop-text : goal.invariant-loop-text
invariant-loop-text l = l.out.items ≡ l.initial.out.items ++ texts_in_row (take l.text-index l.texts)
