use Rattle.std.proofs.Common.{◌≡◌, ◌++◌, take}
use Rattle.x12_write.specs.Segment.{read}
use Rattle.night_report.specs.Lines.{spaced}
use Rattle.night_report.proofs.spaced.append_words.Given as goal

abbrev pub invariant-loop-word : goal.invariant-loop-word
invariant-loop-word l = l.out.items ≡ l.initial.out.items ++ spaced (read (take l.word-index l.words))
