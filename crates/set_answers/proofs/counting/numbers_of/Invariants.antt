use Rattle.std.proofs.Common.{◌≡◌, map, take}
use Rattle.set_answers.specs.Counted.{without_text}
use Rattle.set_answers.proofs.counting.numbers_of.Given as goal

abbrev pub invariant-loop-one : goal.invariant-loop-one
invariant-loop-one l = l.numbers.items ≡ map without_text (take l.one-index l.sent)
