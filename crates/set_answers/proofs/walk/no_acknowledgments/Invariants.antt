use Rattle.std.proofs.Common.{◌≡◌, replicate}
use Rattle.set_answers.specs.CheckedText.{nothing_sent}
use Rattle.set_answers.proofs.walk.no_acknowledgments.Given as goal

abbrev pub invariant-loop : goal.invariant-loop
invariant-loop l = l.files.items ≡ replicate l.counter nothing_sent
