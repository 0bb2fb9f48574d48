use Rattle.std.proofs.Common.{◌≡◌, map}
use Rattle.set_answers.specs.CheckedText.{SentValues}
use Rattle.night_batches.proofs.writing.texts_of.Given as goal

abbrev pub invariant-loop-file : goal.invariant-loop-file
invariant-loop-file l = l.texts.items ≡ map (λ (f : SentValues). f.text) l.yielded
