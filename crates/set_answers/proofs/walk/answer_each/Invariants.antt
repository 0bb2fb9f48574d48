use Rattle.std.proofs.Common.{◌≡◌, List, drop, length, map}
use Rattle.std.specs.List.{AllZip}
use Rattle.set_answers.specs.Asked.{IsFound, asked_of}
use Rattle.set_answers.specs.CheckedText.{CheckedInterchange, IsCheckedAs, judged}
use Rattle.set_answers.specs.Headers.{AreHeadersTo}
use Rattle.set_answers.specs.Pairs.{ArePairs}
use Rattle.set_answers.specs.SentAfter.{AreSentAfter}
use Rattle.set_answers.proofs.walk.answer_each.Given as goal

-- the interchanges so far are answered, judged and acknowledged
abbrev pub invariant-loop-i : goal.invariant-loop-i
invariant-loop-i g l = (done : List CheckedInterchange)
    × ArePairs (λ n e x. IsCheckedAs l.batch.text.now l.batch.setup.now e x) l.entries done
    × (length done ≡ l.i)
    × (l.interchanges.items ≡ map (judged l.batch.text.now) done)
    × AreSentAfter l.batch.setup.now l.batch.at.now done l.initial.files l.files
    × AreHeadersTo l.batch.setup.now l.batch.at.now l.headers
    × AllZip IsFound (asked_of l.batch.text.now l.batch.setup.now (drop l.i l.entries)) l.findings
