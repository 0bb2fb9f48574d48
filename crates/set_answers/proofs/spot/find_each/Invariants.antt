use Rattle.std.proofs.Common.{◌≡◌, take}
use Rattle.std.specs.List.{AllZip}
use Rattle.set_answers.specs.Asked.{IsFound, asked_of}
use Rattle.set_answers.specs.Settled.{senders_of}
use Rattle.set_answers.proofs.spot.find_each.Given as goal

-- the senders of the interchanges so far are known, and what is asked of these is found out
abbrev pub invariant-loop-i : goal.invariant-loop-i
invariant-loop-i l =
    (l.senders.items ≡ senders_of l.setup (take l.i l.entries))
    × AllZip IsFound (asked_of l.text l.setup (take l.i l.entries)) l.findings.items
