use Rattle.std.proofs.Common.{◌≡◌, take}
use Rattle.set_answers.specs.Settled.{faults_alone, senders_of}
use Rattle.set_answers.proofs.settled.faults_alone.Given as goal

abbrev pub invariant-loop-entry : goal.invariant-loop-entry
invariant-loop-entry l =
    (l.senders.items ≡ senders_of l.setup (take l.entry-index l.entry-items))
    × (l.faults.items ≡ faults_alone l.setup (take l.entry-index l.entry-items))
