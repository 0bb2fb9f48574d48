use Rattle.std.proofs.Common.{◌≡◌, ◌++◌, length, map}
use Rattle.setup_errors.specs.Sentences.{detail_text, filled}
use Rattle.setup_errors.proofs.sentence.append_filled.Given as goal

abbrev pub invariant-loop-left : goal.invariant-loop-left
invariant-loop-left l =
    l.out.items ++ filled l.left (map detail_text l.more) ≡ l.initial.out.items ++ filled l.sentence (map detail_text l.details)

abbrev pub decreases-loop-left : goal.decreases-loop-left
decreases-loop-left l = length l.left
