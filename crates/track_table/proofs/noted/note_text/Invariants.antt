use Rattle.std.proofs.Common.{◌≡◌, List, length, map}
use Rattle.set_answers.specs.CheckedText.{CheckedInterchange, IsCheckedAs, judged}
use Rattle.set_answers.specs.Pairs.{ArePairs}
use Rattle.track_table.specs.Noted.{notes_of}
use Rattle.track_table.proofs.noted.note_text.Given as goal

-- the interchanges so far are answered, and this is kept of them
abbrev pub invariant-loop-i : goal.invariant-loop-i
invariant-loop-i l = (done : List CheckedInterchange)
    × ArePairs (λ n e x. IsCheckedAs l.index.text l.setup e x) l.index.entries done
    × (length done ≡ l.i)
    × (l.interchanges.items ≡ map (judged l.index.text) done)
    × (l.notes.items ≡ map notes_of done)
