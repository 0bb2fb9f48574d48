use Rattle.std.proofs.Common.{◌≡◌, ◌++◌, ◌+◌, drop}
use Rattle.setup_errors.specs.GuideWords.{elements_words}
use Rattle.setup_errors.proofs.guide_words.append_elements.Given as goal

abbrev pub invariant-loop-i : goal.invariant-loop-i
invariant-loop-i l = l.out.items ++ elements_words (l.i + 1) (drop l.i l.elements) ≡ l.initial.out.items ++ elements_words 1 l.elements
