use Rattle.std.proofs.Common.{◌≡◌}
use Rattle.night_report.specs.Clean.{last_behind, last_of, words_of}
use Rattle.night_report.proofs.clean.last_word.Given as goal

abbrev pub invariant-loop-word : goal.invariant-loop-word
invariant-loop-word l = last_behind l.last l.word-iterator ≡ last_of (words_of l.line)
